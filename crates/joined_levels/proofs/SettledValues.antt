-- In settled levels the value of a joined part is that of its rows.
use Rattle.std.proofs.Common.{ℕ, ◌≡◌, ◌≢◌, Bool, true, false, cond, List, [], ◌∷◌, map, Option, Some, None, refl, sym, ap, ◌∙◌, inl, inr}
use Rattle.std.specs.Prelude.{slice_get}
use Rattle.bdd.specs.Tree.{Point}
use Rattle.mig_base.specs.declared.levels.Level.{Level}
use Rattle.mig_base.specs.declared.levels.Level.TheVariants.{Zero, One, Z, X}
use Rattle.mig_base.specs.declared.plans.Part.{Part}
use Rattle.mig_base.specs.declared.nets.Var.{Var}
use Rattle.mig_base.specs.declared.circuit.Driver.{Driver}
use Rattle.mig_base.specs.declared.circuit.Read.{Read}
use Rattle.mig_base.specs.declared.circuit.Read.TheVariants.{OfNet, OfRegister}
use Rattle.mig_base.specs.declared.circuit.Levels.{Levels}
use Rattle.mig_base.specs.Accepted.{IsAccepted}
use Rattle.mig_base.specs.Among.{Among}
use Rattle.mig_base.specs.Levels.{not3, level_at}
use Rattle.mig_base.specs.Values.{source_level, inverted}
use Rattle.mig_base.proofs.LevelFacts.{reads-known}
use Rattle.structure.specs.Products.{part_over}
use Rattle.structure.specs.Pure.{IsPure}
use Rattle.board.specs.Joined.{Joined, equations_of}
use Rattle.board.specs.UnitLists.{register_units}
use Rattle.board.specs.Variables.{read_of}
use Rattle.rails.specs.Variables.{all_rails, same_var}
use Rattle.rails.specs.Levels.{AreLevels, IsLevel, level_of, value_under}
use Rattle.rails.proofs.LiteralLemmas.{same_self}
use Rattle.level_laws.specs.PureLevels.{HasPureLevels}
use Rattle.level_laws.specs.SameBehaviour.{IsBit}
use Rattle.level_laws.specs.Settled.{IsSettled}
use Rattle.level_laws.specs.VariableLevels.{Levelling, terms_level}
use Rattle.level_laws.proofs.PureBits.{read-bit}
use Rattle.read_nodes.specs.ReadsNodes.{ReadsNodes}
use Rattle.product_levels.specs.PartLevels.{part_value, variable_level}
use Rattle.product_levels.proofs.AliasLevels.{register-known}
use Rattle.product_levels.proofs.ProductLevels.{part-level}
use Rattle.joiner.specs.AbsorbedNets.{AreAbsorbable}
use Rattle.joiner.specs.Joined.{IsCone, part_or_none, unit_part}
use Rattle.joiner.specs.JoinedLevels.{inverted_level}
use Rattle.joiner.specs.JoinedPart.{HasJoinedValue}
use Rattle.joiner.proofs.PairLaws.{same_exact}
use Rattle.joined_levels.proofs.AbsorbedLevels.{levels-absorbed}

is-level : (pure : Bool) (a : Level) → (pure ≡ true → IsBit a) → a ≢ Z → IsLevel pure a
is-level true Zero bit known = inl refl
is-level true One bit known = inr refl
is-level true Z bit known = absurd (known refl)
is-level true X bit known = absurd (bit refl)
is-level false a bit known = known

low-level : (low : Bool) (a : Level) → cond low (not3 a) a ≡ inverted low a
low-level true a = refl
low-level false a = refl

-- the levels of listed variables, by a levelling
abbrev pub levels_by : Levelling → List (Var × Bool) → List Level
levels_by l vars = map (λ (w : Var × Bool). l w.0) vars

level-listed : (l : Levelling) (vars : List (Var × Bool)) (w : Var × Bool) → Among w vars → l w.0 ≡ level_of vars (levels_by l vars) w.0
level-listed l [] w a = absurd a
level-listed l (x ∷ xs) w a = by (same_var x.0 w.0) refl a (level-listed l xs w)
  where
    by : (q : Bool) → same_var x.0 w.0 ≡ q → Among w (x ∷ xs) → (Among w xs → l w.0 ≡ level_of xs (levels_by l xs) w.0) → l w.0 ≡ cond q (l x.0) (level_of xs (levels_by l xs) w.0)
    by true is b rest = ap l (sym (same_exact x.0 w.0 is))
    by false is (inl e) rest = let wrong : true ≡ false = sym (same_self w.0) ∙ ap (λ (y : Var × Bool). same_var y.0 w.0) e ∙ is in cc
    by false is (inr b) rest = rest b

levels-are : (l : Levelling) (vars : List (Var × Bool)) → ((w : Var × Bool) → Among w vars → IsLevel w.1 (l w.0)) → AreLevels vars (levels_by l vars)
levels-are l [] h = tt
levels-are l (w ∷ ws) h = (h w (inl refl), levels-are l ws (λ x a. h x (inr a)))

module _ (b : Joined) (absorbed : List ℕ) (stored inputs : List Level) (l : Levels) (accepted : IsAccepted (equations_of b)) (reads : ReadsNodes (equations_of b))
    (may : AreAbsorbable b absorbed) (settled : IsSettled (equations_of b) stored inputs l) (pure : HasPureLevels (equations_of b) l) where
  known : (v : Read) → source_level l v ≢ Z
  known (OfNet n) = reads-known (level_at l.nets n)
  known (OfRegister k) = register-known (equations_of b) stored inputs l accepted settled k

  bit : (v : Read) → IsPure (equations_of b) v → IsBit (source_level l v)
  bit (OfNet n) p = read-bit (level_at l.nets n) (pure (OfNet n) p)
  bit (OfRegister k) p = pure (OfRegister k) p

  -- the level of a part, by its rows
  part-is : (u : ℕ) (part : Part) → inverted_level (variable_level b l) (unit_part b u part) ≡ inverted (unit_part b u part).low (part_value (equations_of b) l u part)
  part-is u part =
      low-level (unit_part b u part).low (terms_level (variable_level b l) (unit_part b u part).terms)
      ∙ ap (inverted (unit_part b u part).low)
      (ap (terms_level (variable_level b l)) (terms-are (slice_get (equations_of b).units u)) ∙ part-level b stored inputs l accepted reads settled u part)
    where
      terms-are : (o : Option Driver) → (part_or_none b part o).terms ≡ part_over (equations_of b) (register_units b.chips) part o
      terms-are None = refl
      terms-are (Some d) = refl

  pub value-settled : (u : ℕ) (part : Part) (vars : List (Var × Bool)) (f : Point → Bool) → IsCone b absorbed (unit_part b u part).terms vars → HasJoinedValue b absorbed (unit_part b u part) vars f
      → value_under (all_rails vars) f (levels_by (variable_level b l) vars) ≡ inverted (unit_part b u part).low (part_value (equations_of b) l u part)
  value-settled u part vars f cone valued =
      valued (levels_by (variable_level b l) vars) (variable_level b l)
      (levels-are (variable_level b l) vars (λ w a. is-level w.1 (variable_level b l w.0) (λ e. bit (read_of b.chips w.0) ((cone.pure w a).0 e)) (known (read_of b.chips w.0))))
      (record { each = λ w a. level-listed (variable_level b l) vars w a })
      (levels-absorbed b absorbed stored inputs l accepted reads may settled)
      ∙ part-is u part
