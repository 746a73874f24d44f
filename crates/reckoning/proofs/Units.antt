-- What a unit gives, and its drive.
use Rattle.std.proofs.Common.{◌≡◌, ◌≢◌, false, List, ◌++◌, refl, sym, ap, ◌∙◌}
use Rattle.bdd.specs.Tree.{Point, holds}
use Rattle.bdd.specs.Diagram.{Diagram, Keeps, IsConstant}
use Rattle.bdd.specs.declared.Ref.{Ref}
use Rattle.mig_base.specs.declared.levels.Level.{Level}
use Rattle.mig_base.specs.declared.levels.Level.TheVariants.{Zero, One, Z, X}
use Rattle.mig_base.specs.declared.circuit.Read.{Read}
use Rattle.mig_base.specs.declared.circuit.Driver.{Driver}
use Rattle.mig_base.specs.declared.circuit.Levels.{Levels}
use Rattle.mig_base.specs.Levels.{same_level}
use Rattle.mig_base.specs.Values.{row_value, row_reads, inverted}
use Rattle.mig_base.specs.Reads.{gives_reads}
use Rattle.level_laws.specs.Settled.{gives_level, drive_level}
use Rattle.level_laws.proofs.Unique.{all_left, all_right}
use Rattle.reckoning.specs.declared.triples.Three.{Three}
use Rattle.reckoning.specs.declared.triples.Value.{Value}
use Rattle.reckoning.specs.declared.triples.Table.{Table}
use Rattle.reckoning.specs.Triples.{Says}
use Rattle.reckoning.specs.Tables.{IsTable, NodeSays, IsValueOf, IsTripleOf}
use Rattle.reckoning.specs.Steps.{IsGated}
use Rattle.reckoning.proofs.Kept.{nodes_kept, means_kept}

pub not-z : (level : Level) → level ≢ Z → same_level level Z ≡ false
not-z Zero h = refl
not-z One h = refl
not-z Z h = absurd (h refl)
not-z X h = refl

-- a value that is never Z, as a triple
pub known-triple : (a b : Diagram) (t : Table) (reads : List Read) (rule : Levels → Level) (v : Value) (float : Ref) → ((l : Levels) → rule l ≢ Z) → IsConstant b false float →
    IsValueOf a b t reads rule v → IsTripleOf a b t reads rule (record { one = v.one; zero = v.zero; float = float })
known-triple a b t reads rule v float known never is = record {
  valid = record { one = is.valid.one; zero = is.valid.zero; float = never.valid };
  says = λ p l says. let m = is.means p l says in record { one = m.one; zero = m.zero; float = ap (λ t. holds t p) never.tree ∙ sym (not-z (rule l) (known l)) };
}

pub driven : (a b c d : Diagram) (t : Table) (x : Driver) (enable : Value) (given level r : Three) → IsTable a t → Keeps a b → Keeps b c → Keeps c d →
    IsValueOf a b t (row_reads x.enable) (λ l. row_value l x.enable) enable → IsTripleOf b c t (gives_reads x.gives) (λ l. gives_level l x.gives) given →
    ((p : Point) (y : Level) → Says c given p y → Says c level p (inverted x.low y)) → IsGated c d enable level r →
    IsTripleOf a d t (row_reads x.enable ++ gives_reads x.gives) (λ l. drive_level l x) r
driven a b c d t x enable given level r table ab bc cd is gives turned gated = record {
  valid = gated.valid;
  says = λ p l says.
      gated.says p (row_value l x.enable) (inverted x.low (gives_level l x.gives))
      (means_kept b c enable p (row_value l x.enable) bc is.valid (is.means p l (all_left (NodeSays a t p l) (row_reads x.enable) (gives_reads x.gives) says)))
      (turned p (gives_level l x.gives) (gives.says p l (nodes_kept a b t p l (gives_reads x.gives) ab table (all_right (NodeSays a t p l) (row_reads x.enable) (gives_reads x.gives) says))));
}
