-- All triples of a board at once.
use Rattle.std.proofs.Common.{ℕ, zero, suc, false, List, replicate, sym, ap, ◌∙◌, subst}
use Rattle.std.specs.Prelude.{slice_get}
use Rattle.bdd.specs.Diagram.{Diagram, IsConstant, Keeps}
use Rattle.mig_base.specs.declared.levels.Level.{Level}
use Rattle.mig_base.specs.declared.circuit.Read.TheVariants.{OfNet, OfRegister}
use Rattle.mig_base.specs.declared.circuit.Circuit.{Circuit}
use Rattle.mig_base.specs.Levels.{level_at, or_x}
use Rattle.level_laws.specs.Settled.{drive_level}
use Rattle.level_laws.proofs.Unique.{level_at-map}
use Rattle.reckoning.specs.declared.triples.Three.{Three}
use Rattle.reckoning.specs.declared.triples.Table.{Table}
use Rattle.reckoning.specs.Triples.{IsTriple, AreTriples, NeverFloat, PlaceSays}
use Rattle.reckoning.specs.Reached.{IsReckoned}
use Rattle.reckoning.specs.Made.{AreDrives, AreTaken, AllSay}
use Rattle.reckoning.specs.Whole.{AreSettled}
use Rattle.reckoning.proofs.Kept.{keeps_trans, never_kept, node_kept, place_kept, triples_kept}
use Rattle.reckoning.proofs.ReachedLaws.{all-said}

pub same-triples : (d : Diagram) (t : Three) (n : ℕ) → IsTriple d t → AreTriples d (replicate n t)
same-triples d t zero is k = tt
same-triples d t (suc n) is zero = is
same-triples d t (suc n) is (suc k) = same-triples d t n is k

pub same-never : (d : Diagram) (t : Three) (n : ℕ) → IsConstant d false t.float → NeverFloat d (replicate n t)
same-never d t zero is k = tt
same-never d t (suc n) is zero = is
same-never d t (suc n) is (suc k) = same-never d t n is k

-- graphs before all, after the nodes, after the drives and after what registers take
pub all-settled : (a b c d : Diagram) (circuit : Circuit) (stored handed drives next : List Three) (t : Table) → Keeps b c → Keeps c d →
    IsReckoned a b circuit stored handed t → NeverFloat b t.visible → NeverFloat d next → AreDrives b c circuit t drives → AreTaken c d circuit t next →
    AreSettled a d circuit stored handed (record { nets = t.nets; drives = drives; visible = t.visible; next = next })
all-settled a b c d circuit stored handed drives next t bc cd is never_visible never_next driven taking =
    let bd : Keeps b d = keeps_trans b c d bc cd in record {
      triples = record {
        nets = triples_kept b d t.nets bd is.table.nets;
        drives = triples_kept c d drives cd driven.triples;
        visible = triples_kept b d t.visible bd is.table.visible;
        next = taking.triples;
        visible_known = never_kept b d t.visible bd never_visible;
        next_known = never_next;
        net_count = is.places.nets;
        drive_count = driven.count;
        visible_count = is.places.visible;
        next_count = taking.count;
      };
      says = λ p l g.
          let all : AllSay b t p l = all-said a b circuit stored handed t is p l g in
          let later : AllSay c t p l = λ v. node_kept b c t p l v bc is.table (all v) in
          record {
            nets = λ n. place_kept b d t.nets n p (level_at l.nets n) bd is.table.nets (all (OfNet n));
            drives = λ u. subst (PlaceSays d drives u p)
                (sym (ap (λ (ls : List Level). level_at ls u) g.settled.drives ∙ level_at-map (drive_level l) circuit.units u))
                (place_kept c d drives u p (or_x (drive_level l) (slice_get circuit.units u)) cd driven.triples (driven.says p l all u));
            visible = λ k. place_kept b d t.visible k p (level_at l.visible k) bd is.table.visible (all (OfRegister k));
            next = λ k. taking.says p l later k;
          };
    }
