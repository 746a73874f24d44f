-- A net or a visible Q made anew.
use Rattle.std.proofs.Common.{ℕ, zero, suc, ◌≡◌, false, List, [], ◌∷◌, map, length, Option, Some, refl, sym, ap, ◌∙◌, subst, arith}
use Rattle.std.specs.Prelude.{slice_get, slice_set}
use Rattle.bdd.specs.Tree.{Point, holds}
use Rattle.bdd.specs.Diagram.{Diagram, Keeps, IsConstant}
use Rattle.bdd.specs.declared.Ref.{Ref}
use Rattle.mig_base.specs.declared.levels.Level.{Level}
use Rattle.mig_base.specs.declared.levels.Level.TheVariants.{Zero, One, Z, X}
use Rattle.mig_base.specs.declared.circuit.Read.TheVariants.{OfNet, OfRegister}
use Rattle.mig_base.specs.declared.circuit.Register.{Register}
use Rattle.mig_base.specs.declared.circuit.Wire.{Wire}
use Rattle.mig_base.specs.declared.circuit.Circuit.{Circuit}
use Rattle.mig_base.specs.declared.circuit.Levels.{Levels}
use Rattle.mig_base.specs.Levels.{and3, not3, level_at, or_x, same_level}
use Rattle.mig_base.specs.Reads.{reads_of_register, reads_of_wire, wire_reads}
use Rattle.mig_base.specs.Values.{row_reads, row_value}
use Rattle.level_laws.specs.Settled.{IsSettled, drive_level, level_by, visible_level, visible_levels, wire_level}
use Rattle.level_laws.proofs.Unique.{level_at-map}
use Rattle.settle.specs.Rules.{net_level}
use Rattle.settle.proofs.LevelLaws.{and-known}
use Rattle.reckoning.specs.declared.triples.Three.{Three}
use Rattle.reckoning.specs.declared.triples.Value.{Value}
use Rattle.reckoning.specs.declared.triples.Table.{Table}
use Rattle.reckoning.specs.Triples.{IsTriple, Says, Means, PlaceSays}
use Rattle.reckoning.specs.Tables.{IsNetOf, IsValueOf, NodesSay}
use Rattle.reckoning.specs.Steps.{IsMadeBy}
use Rattle.reckoning.specs.Reached.{IsRenewed, IsVisibleOf}
use Rattle.reckoning.proofs.Kept.{means_kept}
use Rattle.reckoning.proofs.Units.{not-z}

not-one : (y : Level) → same_level y Zero ≡ same_level (not3 y) One
not-one Zero = refl
not-one One = refl
not-one Z = refl
not-one X = refl

not-zero : (y : Level) → same_level y One ≡ same_level (not3 y) Zero
not-zero Zero = refl
not-zero One = refl
not-zero Z = refl
not-zero X = refl

pub visible-made : (a b d : Diagram) (t : Table) (x : Register) (stored : Three) (reset seen : Value) (float : Ref) → Keeps a b → IsTriple a stored →
    IsValueOf a b t (row_reads x.reset) (λ l. row_value l x.reset) reset →
    IsMadeBy and3 b d (record { one = stored.one; zero = stored.zero }) (record { one = reset.zero; zero = reset.one }) seen → IsConstant d false float →
    IsVisibleOf a d t x stored (record { one = seen.one; zero = seen.zero; float = float })
visible-made a b d t x stored reset seen float ab vs is made never = record {
  valid = record { one = made.valid.one; zero = made.valid.zero; float = never.valid };
  says = λ p l s says reads.
      let y = row_value l x.reset in
      let level : Means b (record { one = stored.one; zero = stored.zero }) p s =
      means_kept a b (record { one = stored.one; zero = stored.zero }) p s ab (record { one = vs.one; zero = vs.zero }) (record { one = says.one; zero = says.zero }) in
      let row : Means b reset p y = is.means p l reads in
      let m : Means d seen p (and3 s (not3 y)) = made.means p s (not3 y) level (record { one = row.zero ∙ not-one y; zero = row.one ∙ not-zero y }) in
      record { one = m.one; zero = m.zero; float = ap (λ q. holds q p) never.tree ∙ sym (not-z (and3 s (not3 y)) (and-known s (not3 y))) };
}

-- the settled level of a net, its drives made anew
net-settled : (c : Circuit) (stored inputs : List Level) (l : Levels) (n : ℕ) (w : Wire) → IsSettled c stored inputs l → slice_get c.nets n ≡ Some w → level_at l.nets n ≡ net_level c inputs l w
net-settled c stored inputs l n w settled some =
    ap (λ (ls : List Level). level_at ls n) settled.nets ∙ level_at-map (wire_level inputs l) c.nets n ∙ ap (or_x (wire_level inputs l)) some
    ∙ (λ i. level_by inputs w.kind w.pull (map (λ (u : ℕ). (ap (λ (ls : List Level). level_at ls u) settled.drives ∙ level_at-map (drive_level l) c.units u) i) w.drivers))

pub net-renewed : (a b : Diagram) (c : Circuit) (stored handed : List Three) (n : ℕ) (w : Wire) (t : Table) (x : Three) → slice_get c.nets n ≡ Some w →
    IsNetOf a b t handed (wire_reads c w) (λ inputs l. net_level c inputs l w) x → IsRenewed a b c stored handed (OfNet n) t (record { nets = slice_set t.nets n x; visible = t.visible })
net-renewed a b c stored handed n w t x some is = record {
  three = x;
  valid = is.valid;
  placed = refl;
  says = λ p l g reads. subst (Says b x p) (sym (net-settled c g.levels g.inputs l n w g.settled some))
      (is.says p l g.inputs g.handed_say (subst (λ (o : Option Wire). NodesSay a t p l (reads_of_wire c o)) some reads));
}

same-register : (a b : Register) → Some a ≡ Some b → a ≡ b
same-register a b e = cc

seen-at : (l : Levels) (rs : List Register) (ss : List Level) (k : ℕ) (r : Register) → slice_get rs k ≡ Some r → length ss ≡ length rs → level_at (visible_levels l rs ss) k ≡ visible_level l r (level_at ss k)
seen-at l [] ss k r e long = cc
seen-at l (q ∷ rs) [] k r e long = absurd (omega arith)
seen-at l (q ∷ rs) (s ∷ ss) zero r e long = ap (λ (p : Register). visible_level l p s) (same-register q r e)
seen-at l (q ∷ rs) (s ∷ ss) (suc k) r e long = seen-at l rs ss k r e (omega arith)

pub register-renewed : (a b : Diagram) (c : Circuit) (stored handed : List Three) (k : ℕ) (r : Register) (t : Table) (given x : Three) → slice_get c.registers k ≡ Some r →
    ((p : Point) (level : Level) → PlaceSays a stored k p level → Says a given p level) → IsVisibleOf a b t r given x →
    IsRenewed a b c stored handed (OfRegister k) t (record { nets = t.nets; visible = slice_set t.visible k x })
register-renewed a b c stored handed k r t given x some says is = record {
  three = x;
  valid = is.valid;
  placed = refl;
  says = λ p l g reads. subst (Says b x p) (sym (ap (λ (ls : List Level). level_at ls k) g.settled.visible ∙ seen-at l c.registers g.levels k r some g.count))
      (is.says p l (level_at g.levels k) (says p (level_at g.levels k) (g.stored_say k)) (subst (λ (o : Option Register). NodesSay a t p l (reads_of_register o)) some reads));
}
