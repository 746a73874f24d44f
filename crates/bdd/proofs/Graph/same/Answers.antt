use Rattle.std.proofs.Common.{sym, ap, ◌∙◌, subst}
use Rattle.std.proofs.lemmas.Bool.{eq-eqb}
use Rattle.bdd.specs.Diagram.{function_of, IsCanonical}
use Rattle.bdd.specs.declared.Ref.{Ref}
use Rattle.bdd.proofs.Equality.{ref_exact}
use Rattle.bdd.proofs.Graph.same.Goals as goal

pub returns-clause-same : goal.returns-clause-same
returns-clause-same c =
    let canonical : IsCanonical c.args.self.now = subst IsCanonical c.self.view_is c.self.invariant.canonical in (
      (λ yes p.
          ap (λ (r : Ref). function_of c.args.self.now r p) (ref_exact c.args.f c.args.g (sym c.eq.ensures ∙ yes))),
      (λ equal. c.eq.ensures ∙ eq-eqb c.args.f.0 c.args.g.0 (ap (λ (r : Ref). r.0) (canonical.same c.args.f c.args.g c.requires.f_valid c.requires.g_valid equal))),
    )
