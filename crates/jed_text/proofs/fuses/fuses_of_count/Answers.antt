use Rattle.std.proofs.Common.{◌≡◌, Bool, false, List, map, Option, None, Result, subst, length, ap, sym, ◌∙◌, arith}
use Rattle.std.specs.Prelude.{unwrap_or}
use Rattle.mig_base.specs.declared.jedec.JedError.{JedError}
use Rattle.mig_base.specs.FuseText.{default_in, unset_refusal}
use Rattle.jed_text.specs.Bodies.{statements_of}
use Rattle.jed_text.specs.Marks.{state_by}
use Rattle.jed_text.specs.ReadAnswer.{IsAnswer}
use Rattle.jed_text.proofs.MarkLemmas.{marks-length}
use Rattle.jed_text.proofs.FuseLemmas.{IsListedOnce, marks-found, twice-same, unset-same, states-same, refused-twice, refused-unset, left-states}
use Rattle.jed_text.proofs.fuses.fuses_of_count.Goals as goal

pub twice_refusal-requires : goal.twice_refusal-requires
twice_refusal-requires c =
    let fields = statements_of c.args.body in
    let n : length c.as_slice.result.now ≡ c.args.count =
    ap length (c.as_slice.ensures.value ∙ sym (marks-found fields c.args.count c.in_ok-marks.marks.items c.in_ok-marks.ensures.marks).1) ∙ marks-length fields c.args.count in
    omega arith

pub unset_refusal-requires : goal.unset_refusal-requires
unset_refusal-requires c =
    let fields = statements_of c.args.body in
    let n : length c.as_slice-2.result.now ≡ c.args.count =
    ap length (c.as_slice-2.ensures.value ∙ sym (marks-found fields c.args.count c.in_ok-marks.marks.items c.in_ok-marks.ensures.marks).1) ∙ marks-length fields c.args.count in
    omega arith

pub returns-in-Some : goal.returns-in-Some
returns-in-Some c = λ memory.
    let fields = statements_of c.args.body in
    let count = c.args.count in
    let found = marks-found fields count c.in_ok-marks.marks.items c.in_ok-marks.ensures.marks in
    refused-twice fields count c.in-Some.refusal found.0
    (sym (twice-same fields count c.as_slice.result.now (c.as_slice.ensures.value ∙ sym found.1)) ∙ sym c.in-Some.ensures)

pub returns-in-Some-unset_refusal : goal.returns-in-Some-unset_refusal
returns-in-Some-unset_refusal c = λ memory.
    let fields = statements_of c.args.body in
    let count = c.args.count in
    let found = marks-found fields count c.in_ok-marks.marks.items c.in_ok-marks.ensures.marks in
    let once : IsListedOnce fields count = record {
      within = found.0;
      once = sym (twice-same fields count c.as_slice.result.now (c.as_slice.ensures.value ∙ sym found.1)) ∙ sym c.in_default.ensures;
    } in
    refused-unset fields count c.in-Some-unset_refusal.refusal once
    (ap (λ (d : Option Bool). unset_refusal fields d count) (sym c.requires)
    ∙ sym (unset-same fields count c.as_slice-2.result.now c.args.default (c.as_slice-2.ensures.value ∙ sym found.1)) ∙ sym c.in-Some-unset_refusal.ensures)

pub returns : goal.returns
returns c =
    let fields = statements_of c.args.body in
    let count = c.args.count in
    let found = marks-found fields count c.in_ok-marks.marks.items c.in_ok-marks.ensures.marks in
    let once : IsListedOnce fields count = record {
      within = found.0;
      once = sym (twice-same fields count c.as_slice.result.now (c.as_slice.ensures.value ∙ sym found.1)) ∙ sym c.in_default.ensures;
    } in
    let set : unset_refusal fields (default_in fields) count ≡ None =
    ap (λ (d : Option Bool). unset_refusal fields d count) (sym c.requires)
    ∙ sym (unset-same fields count c.as_slice-2.result.now c.args.default (c.as_slice-2.ensures.value ∙ sym found.1)) ∙ sym c.in_default-unset_refusal.ensures in
    let other : c.unwrap_or.result ≡ unwrap_or (default_in fields) false = c.unwrap_or.ensures ∙ ap (λ (d : Option Bool). unwrap_or d false) c.requires in
    let P : Result (List Bool) JedError → Type 0 = λ said. IsAnswer c.checked_states.result said in
    subst P (left-states fields count (map (state_by c.unwrap_or.result) c.as_slice-3.result.now) once set
    (states-same fields count c.as_slice-3.result.now c.unwrap_or.result (c.as_slice-3.ensures.value ∙ sym found.1) other)) c.checked_states.ensures
