use Rattle.std.proofs.Common.{◌++◌, ◌∷◌, List, ℕ, ap, ◌∙◌}
use Rattle.mig_base.specs.FuseText.{fuse_sum}
use Rattle.mig_base.specs.WrittenFuses.{written_line, written_groups, four_hex}
use Rattle.jed_write.proofs.PartLemmas.{fits, groups_text, kind-parts}
use Rattle.jed_write.proofs.text.push_body.Goals as goal

pub returns : goal.returns
returns c =
    let k = c.args.kind in
    let states = c.args.states.now in
    c.in_ok-push_fuse_sum.ensures
    ∙ ap (λ (text : List ℕ). text ++ written_line (67 ∷ four_hex (fuse_sum states))) c.in_ok-push_fuses.ensures
    ∙ ap (λ (text : List ℕ). (text ++ groups_text 0 (written_groups k states)) ++ written_line (67 ∷ four_hex (fuse_sum states))) c.in_ok-push_head.ensures
    ∙ kind-parts c.args.text.now.items k states (fits k states c.requires).whole
