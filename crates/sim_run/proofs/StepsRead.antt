-- The lines behind the `ports` line, one by one.
use Rattle.std.proofs.Common.{◌≡◌, ◌+◌, Bool, true, false, not, ◌||◌, List, [], ◌∷◌, ◌++◌, ℕ, length, Option, Some, None, Result, Ok, refl, sym, ap, ◌∙◌, subst, append_assoc}
use Rattle.std.specs.List.{list_any, filter_map, cons_option}
use Rattle.std.proofs.lemmas.List.{append-nil, length-append}
use Rattle.std.proofs.lemmas.List.Folds.{list_any-append}
use Rattle.std.proofs.lemmas.List.Elements.{filter_map-append}
use Rattle.mig_base.specs.First.{or_else, first_refusal, unless}
use Rattle.mig_base.specs.Lines.{TextLine}
use Rattle.sim_run.specs.declared.naming.Slot.{Slot}
use Rattle.mig_base.specs.declared.circuit.Inputs.{Inputs}
use Rattle.mig_base.specs.declared.scripts.ScriptError.{ScriptError}
use Rattle.mig_base.specs.declared.scripts.ScriptError.TheVariants.{Line as BadLine, NoEnd}
use Rattle.sim_run.specs.ScriptText.{refuse, ends}
use Rattle.sim_run.specs.Statements.{slot_inputs_on, after_steps, rest_refusal, steps_said}

-- these lines are left of all, and those before them gave these steps
pub record IsRead (slots : List Slot) (all rest : List TextLine) (given : List Inputs) : Type 0 where
  pub before : List TextLine
  pub whole : before ++ rest ≡ all
  pub going : list_any ends before ≡ false
  pub passed : first_refusal (rest_refusal slots) before rest ≡ first_refusal (rest_refusal slots) [] all
  pub steps : given ≡ filter_map (slot_inputs_on slots) before
  pub count : length given ≡ length before

pub read-begins : (slots : List Slot) (all : List TextLine) → IsRead slots all all []
read-begins slots all = record { before = []; whole = refl; going = refl; passed = refl; steps = refl; count = refl }

-- the refusal of all lines, where this one is next
judged-next : (slots : List Slot) (all : List TextLine) (l : TextLine) (rest : List TextLine) (given : List Inputs) (r : IsRead slots all (l ∷ rest) given) →
    first_refusal (rest_refusal slots) [] all ≡ or_else (after_steps slots (length given) l) (first_refusal (rest_refusal slots) (r.before ++ l ∷ []) rest)
judged-next slots all l rest given r =
    sym r.passed
    ∙ ap (λ (t : Bool). or_else (or_else (refuse t (BadLine l.n)) (after_steps slots (length r.before) l)) (first_refusal (rest_refusal slots) (r.before ++ l ∷ []) rest)) r.going
    ∙ ap (λ (k : ℕ). or_else (after_steps slots k l) (first_refusal (rest_refusal slots) (r.before ++ l ∷ []) rest)) (sym r.count)

snoc : (before : List TextLine) (l : TextLine) (rest : List TextLine) → (before ++ l ∷ []) ++ rest ≡ before ++ l ∷ rest
snoc before l rest = append_assoc before (l ∷ []) rest

pub read-more : (slots : List Slot) (all : List TextLine) (l : TextLine) (left rest : List TextLine) (given after : List Inputs) (inputs : Inputs) → left ≡ l ∷ rest → after_steps slots (length given) l ≡ None →
    slot_inputs_on slots l ≡ Some inputs → false ≡ ends l → after ≡ given ++ inputs ∷ [] → IsRead slots all left given → IsRead slots all rest after
read-more slots all l left rest given after inputs is passes gives going put read = from (subst (λ (ls : List TextLine). IsRead slots all ls given) is read)
  where
    or-false : (a b : Bool) → a ≡ false → b ≡ false → (a || (b || false)) ≡ false
    or-false true b h k = cc
    or-false false true h k = cc
    or-false false false h k = refl

    from : IsRead slots all (l ∷ rest) given → IsRead slots all rest after
    from r = record {
      before = r.before ++ l ∷ [];
      whole = snoc r.before l rest ∙ r.whole;
      going = list_any-append ends r.before (l ∷ []) ∙ or-false (list_any ends r.before) (ends l) r.going (sym going);
      passed = sym (judged-next slots all l rest given r ∙ ap (λ (o : Option ScriptError). or_else o (first_refusal (rest_refusal slots) (r.before ++ l ∷ []) rest)) passes);
      steps = put ∙ ap (λ (is : List Inputs). is ++ inputs ∷ []) r.steps ∙ ap (λ (o : Option Inputs). filter_map (slot_inputs_on slots) r.before ++ cons_option o []) (sym gives)
          ∙ sym (filter_map-append (slot_inputs_on slots) r.before (l ∷ []));
      count = ap length put ∙ length-append given (inputs ∷ []) ∙ ap (λ (k : ℕ). k + 1) r.count ∙ sym (length-append r.before (l ∷ []));
    }

-- what all lines say, by their refusal and whether there is an end
abbrev said : Option ScriptError → Bool → List Inputs → Result (List Inputs) ScriptError
said o ended given = unless (or_else o (refuse (not ended) NoEnd)) (Ok given)

said-by : (slots : List Slot) (all : List TextLine) (o : Option ScriptError) (ended : Bool) → first_refusal (rest_refusal slots) [] all ≡ o → list_any ends all ≡ ended →
    steps_said slots all ≡ said o ended (filter_map (slot_inputs_on slots) all)
said-by slots all o ended h k =
    ap (λ (p : Option ScriptError). said p (list_any ends all) (filter_map (slot_inputs_on slots) all)) h ∙ ap (λ (t : Bool). said o t (filter_map (slot_inputs_on slots) all)) k

or-true : (a b c : Bool) → b ≡ true → (a || (b || c)) ≡ true
or-true true b c h = refl
or-true false true c h = refl
or-true false false c h = cc

-- the end is the last line
pub read-ended : (slots : List Slot) (all : List TextLine) (l : TextLine) (left rest : List TextLine) (given : List Inputs) → left ≡ l ∷ rest → rest ≡ [] → after_steps slots (length given) l ≡ None →
    slot_inputs_on slots l ≡ None → true ≡ ends l → IsRead slots all left given → steps_said slots all ≡ Ok given
read-ended slots all l left rest given is none passes gives ended read = from (subst (λ (ls : List TextLine). IsRead slots all ls given) (is ∙ ap (λ (ls : List TextLine). l ∷ ls) none) read)
  where
    from : IsRead slots all (l ∷ []) given → steps_said slots all ≡ Ok given
    from r =
        said-by slots all None true (judged-next slots all l [] given r ∙ ap (λ (o : Option ScriptError). or_else o None) passes)
        (ap (list_any ends) (sym r.whole) ∙ list_any-append ends r.before (l ∷ []) ∙ or-true (list_any ends r.before) (ends l) false (sym ended))
        ∙ ap (λ (is : List Inputs). let a : Result (List Inputs) ScriptError = Ok is in a)
        (ap (filter_map (slot_inputs_on slots)) (sym r.whole) ∙ filter_map-append (slot_inputs_on slots) r.before (l ∷ [])
        ∙ ap (λ (o : Option Inputs). filter_map (slot_inputs_on slots) r.before ++ cons_option o []) gives ∙ append-nil _ ∙ sym r.steps)
