use Rattle.std.proofs.Common.{◌≡◌, ◌∙◌, sym, ap, subst, refl, arith, slice_get, Option, Some, IfSome, length, List}
use Rattle.std.proofs.lemmas.Option.{slice_get_read}
use Rattle.mig_base.specs.declared.nets.VarLit.{VarLit}
use Rattle.rails.specs.declared.Rail.{Rail}
use Rattle.rails.specs.Variables.{Held, all_rails, AreRising}
use Rattle.rails.specs.Points.{literal_of, literal_holds, MayStand}
use Rattle.rails.proofs.CallLemmas.{rails_seen}
use Rattle.rails.proofs.LiteralLemmas.{literal_means}
use Rattle.rails.proofs.Rails.literal.Goals as goal
use Rattle.rails.proofs.Rails.literal.Goals.{After-is_true_literal}

module _ (c : After-is_true_literal) where
  at : slice_get (all_rails c.args.self.now.vars) c.args.place ≡ Some c.index-rail.result.now
  at =
      let seen : c.self.inside.rails.items ≡ all_rails c.args.self.now.vars = rails_seen c.self.inside c.args.self.now c.self.inside.rails.items c.self.invariant c.self.view_is refl in
      subst (λ (rs : List Rail). slice_get rs c.args.place ≡ Some c.index-rail.result.now) seen
      (slice_get_read c.self.inside.rails.items (length c.self.inside.rails.items) c.args.place c.index-rail.result.now refl (omega (arith, ap length seen, c.requires.place)) c.index-rail.ensures)

  made : record { var = c.index-rail.result.now.var; high = c.is_true_literal.result } ≡ literal_of c.index-rail.result.now c.args.plain
  made i = record { var = c.index-rail.result.now.var; high = c.is_true_literal.ensures i }

pub returns-clause-literal : goal.returns-clause-literal
returns-clause-literal c =
    subst (λ (o : Option Rail). IfSome o (λ (r : Rail). record { var = c.index-rail.result.now.var; high = c.is_true_literal.result } ≡ literal_of r c.args.plain)) (sym (at c)) (made c)

pub returns-clause-means : goal.returns-clause-means
returns-clause-means c p =
    ap (λ (x : VarLit). literal_holds (all_rails c.args.self.now.vars) x p) (made c)
    ∙ literal_means c.args.self.now.vars c.args.place c.index-rail.result.now c.args.plain
    (subst (λ (h : Held). AreRising h.vars) c.self.view_is c.self.invariant.rising) (at c)
    (subst (λ (o : Option Rail). IfSome o (λ (r : Rail). MayStand r.side c.args.plain)) (at c) c.requires.plain) p
