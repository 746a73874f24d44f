-- Products over variables have the values of the products that they stand for.
use Rattle.std.proofs.Common.{ℕ, zero, suc, ◌≡◌, ◌+◌, ◌<◌, Bool, true, false, cond, List, map, length, Option, Some, None, refl, sym, ap, ◌∙◌, subst, inl, inr, arith}
use Rattle.std.specs.List.{list_any, flat_map}
use Rattle.mig_base.specs.declared.circuit.Read.{Read}
use Rattle.mig_base.specs.declared.circuit.Read.TheVariants.{OfNet, OfRegister}
use Rattle.mig_base.specs.declared.circuit.Literal.{Literal}
use Rattle.mig_base.specs.declared.circuit.Levels.{Levels}
use Rattle.mig_base.specs.declared.circuit.Circuit.{Circuit}
use Rattle.mig_base.specs.First.{made_from}
use Rattle.mig_base.specs.Levels.{not3, level_at}
use Rattle.mig_base.specs.Values.{literal_value, product_value, source_level}
use Rattle.mig_base.specs.Among.{Among}
use Rattle.mig_base.specs.Structure.{same_literal, alias_of, or_alias, variable_by, variable_literal, variable_product, all_variables, both_literals}
use Rattle.mig_base.proofs.ReadLaws.{same-literal}
use Rattle.mig_base.proofs.Amongs.{product-among, map-among, among-left, among-right, among-any, among-flat_map}
use Rattle.mig_base.proofs.LevelFacts.{inverted-twice}
use Rattle.new_board.proofs.Items.{among-filter}
use Rattle.new_board.proofs.Products.{product-same}

-- these levels fit the alias nets: each has the level of its register or the complement
pub record AliasesFit (c : Circuit) (l : Levels) : Type 0 where
  pub level : (n : ℕ) (a : ℕ × Bool) → alias_of c n ≡ Some a → source_level l (OfNet n) ≡ literal_value l (record { source = OfRegister a.0; high = a.1 })
  pub driven : (k : ℕ) → not3 (not3 (level_at l.visible k)) ≡ level_at l.visible k

pub variable-value : (c : Circuit) (l : Levels) (x : Literal) → AliasesFit c l → literal_value l (variable_literal c x) ≡ literal_value l x
variable-value c l x fit = by x.source refl
  where
    by_alias : (n : ℕ) (o : Option (ℕ × Bool)) → alias_of c n ≡ o → x.source ≡ OfNet n → literal_value l (or_alias o x) ≡ literal_value l x
    by_alias n None e is = refl
    by_alias n (Some a) e is =
        inverted-twice x.high a.1 (level_at l.visible a.0) (fit.driven a.0)
        ∙ ap (λ s. cond x.high s (not3 s)) (sym (fit.level n a e))
        ∙ ap (λ s. cond x.high (source_level l s) (not3 (source_level l s))) (sym is)

    by : (s : Read) → x.source ≡ s → literal_value l (variable_by c s x) ≡ literal_value l x
    by (OfNet n) is = by_alias n (alias_of c n) refl is
    by (OfRegister k) is = refl

pub among-made_from : {T : Type 0} (f : ℕ → T) (start count k : ℕ) → k < count → Among (f (start + k)) (made_from f start count)
among-made_from f start zero k h = absurd (omega arith)
among-made_from f start (suc count) zero h = inl (ap f (omega arith))
among-made_from f start (suc count) (suc k) h =
    inr (subst (λ q. Among (f q) (made_from f (start + 1) count)) (omega arith) (among-made_from f (start + 1) count k (omega arith)))

pub net-variable : (c : Circuit) (n : ℕ) → n < length c.nets → Among (OfNet n) (all_variables c)
net-variable c n h = among-left (OfNet n) (made_from OfNet 0 (length c.nets)) _
    (subst (λ q. Among (OfNet q) (made_from OfNet 0 (length c.nets))) (omega arith) (among-made_from OfNet 0 (length c.nets) n h))

pub register-variable : (c : Circuit) (k : ℕ) → k < length c.registers → Among (OfRegister k) (all_variables c)
register-variable c k h = among-right (OfRegister k) (made_from OfNet 0 (length c.nets)) _
    (subst (λ q. Among (OfRegister q) (made_from OfRegister 0 (length c.registers))) (omega arith) (among-made_from OfRegister 0 (length c.registers) k h))

pub among-both : (v : Read) (h : Bool) → Among (record { source = v; high = h }) (both_literals v)
among-both v true = inl refl
among-both v false = inr (inl refl)

-- the variables of a product are those of its literals
pub record AreVariables (c : Circuit) (lits : List Literal) : Type 0 where
  pub each : (x : Literal) → Among x lits → Among (variable_literal c x).source (all_variables c)

pub among-product : (c : Circuit) (x : Literal) (lits : List Literal) → AreVariables c lits → Among x lits → Among (variable_literal c x) (variable_product c lits)
among-product c x lits vars a =
    let y = variable_literal c x in
    among-filter (λ z. list_any (same_literal z) (map (variable_literal c) lits)) y (flat_map both_literals (all_variables c))
    (among-flat_map both_literals y.source y (all_variables c) (vars.each x a) (among-both y.source y.high))
    (among-any (same_literal y) y (map (variable_literal c) lits) (map-among (variable_literal c) x lits a) (same-literal y))

-- a product over variables has the value of the product
pub variable_product-value : (c : Circuit) (l : Levels) (lits : List Literal) → AliasesFit c l → AreVariables c lits →
    product_value l lits ≡ product_value l (variable_product c lits)
variable_product-value c l lits fit vars = product-same l l lits (variable_product c lits)
    (record { each = λ x a. (variable_literal c x, among-product c x lits vars a, sym (variable-value c l x fit)) })
    (record {
      each = λ y a.
          let old = product-among c y lits a in
          (old.0, old.1, ap (literal_value l) old.2 ∙ variable-value c l old.0 fit);
    })
