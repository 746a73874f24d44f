use Rattle.std.proofs.Common.{Bool, List, Some, ◌∙◌, sym, subst}
use Rattle.mig_base.specs.Among.{Among}
use Rattle.mig_base.specs.declared.nets.Var.{Var}
use Rattle.bdd.specs.Diagram.{function_of}
use Rattle.std.specs.Option.{option_map}
use Rattle.plans.specs.Forms.{IsCoverOf}
use Rattle.forms.specs.Cones.{covered_function}
use Rattle.forms.proofs.CoveredLaws.{narrow-kept, covered-some}
use Rattle.forms.proofs.covers.cover_of.Goals as goal

pub returns-in_err-terms-clause-narrow : goal.returns-in_err-terms-clause-narrow
returns-in_err-terms-clause-narrow c absorbed sum h = narrow-kept _ absorbed sum _ _ c.terms_of.ensures.vars c.terms_of.ensures.same c.terms_of.ensures.keeps h

pub returns-in_default-clause-narrow : goal.returns-in_default-clause-narrow
returns-in_default-clause-narrow c absorbed sum h = narrow-kept _ absorbed sum _ _ c.terms_of.ensures.vars c.terms_of.ensures.same c.terms_of.ensures.keeps h

pub table_of-requires : goal.table_of-requires
table_of-requires c w a = c.requires.2.known w (subst (λ (vs : List (Var × Bool)). Among w vs) (c.vars.ensures.vars ∙ c.terms_of.ensures.vars) a)

pub returns-in_err-table-clause-narrow : goal.returns-in_err-table-clause-narrow
returns-in_err-table-clause-narrow c absorbed sum h = narrow-kept _ absorbed sum _ c.terms_of.new.part c.terms_of.ensures.vars c.terms_of.ensures.same c.terms_of.ensures.keeps h

pub returns-in_err-products-clause-narrow : goal.returns-in_err-products-clause-narrow
returns-in_err-products-clause-narrow c absorbed sum h = narrow-kept _ absorbed sum _ c.terms_of.new.part c.terms_of.ensures.vars c.terms_of.ensures.same c.terms_of.ensures.keeps h

pub returns-clause-narrow : goal.returns-clause-narrow
returns-clause-narrow c absorbed sum h = narrow-kept _ absorbed sum _ c.terms_of.new.part c.terms_of.ensures.vars c.terms_of.ensures.same c.terms_of.ensures.keeps h

pub returns-clause-covered : goal.returns-clause-covered
returns-clause-covered c absorbed sum h =
    let part = c.args.part.now in
    let cover = subst (λ o. IsCoverOf (covered_function c.args.inverted part.rails.vars (function_of part.rails.graph part.f)) (option_map (λ ts. ts.items) o)) c.in-Some.is c.in_ok-terms.ensures.cover in
    covered-some c.args.board.now absorbed sum c.args.inverted part c.vars.result.now c.as_slice.result.now c.as_slice-2.result.now c.in_ok-products.products h
    (subst (λ ts. IsCoverOf (covered_function c.args.inverted part.rails.vars (function_of part.rails.graph part.f)) (Some ts)) (sym c.as_slice-2.ensures.value) cover)
    (c.vars.ensures.vars ∙ c.terms_of.ensures.vars) (c.as_slice.ensures.value ∙ c.in_ok-table.ensures) c.in_ok-products.ensures
