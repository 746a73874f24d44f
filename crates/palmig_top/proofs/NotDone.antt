-- No refusal of a board's files is Done.
use Rattle.std.proofs.Common.{ℕ, ◌≡◌, Bool, true, false, List, [], ◌∷◌, Option, Some, None, Result, Ok, Err, refl, sym, ap, ◌∙◌, inl, inr}
use Rattle.std.specs.Prelude.{nat_le, length}
use Rattle.mig_base.specs.declared.cells.ChipCells.{ChipCells}
use Rattle.mig_base.specs.declared.kinds.Kind.{Kind}
use Rattle.mig_base.specs.declared.nets.ChipLine.{ChipLine}
use Rattle.mig_base.specs.declared.nets.Net.{Net}
use Rattle.mig_base.specs.Limits.{most_file_bytes}
use Rattle.mig_base.specs.FuseText.{fuses_of_text}
use Rattle.mig_base.specs.Cells.{cells_of}
use Rattle.mig_base.specs.BoardText.{net_of_text}
use Rattle.mig_io.specs.Holding.{Held}
use Rattle.answers.specs.declared.exit.Exit.{Exit}
use Rattle.answers.specs.declared.exit.Exit.TheVariants.{Done, Refused, Missing}
use Rattle.answers.specs.declared.exit.Refusal.{Refusal}
use Rattle.answers.specs.declared.exit.Refusal.TheVariants.{TooLong, Jed, Chip, PlanText}
use Rattle.answers.specs.declared.exit.Refusal.TheVariants as refusal
use Rattle.plan_text.specs.PlanText.{plan_of_text}
use Rattle.board.specs.Joined.{Joined}
use Rattle.verdicts.specs.HeldBoard.{net_file, jed_file}
use Rattle.verdicts.specs.commands.Migrate.{plan_of, plan_held}
use Rattle.verdicts.specs.Outcomes.{◌>>=◌, only_if, or_refused}
use Rattle.verdicts.specs.JudgedBoard.{within_at, loaded, wiring_of, chip_of, wiring_held, chip_held, chips_held, parts_held, JudgesBoard}

-- whether an answer is Done
abbrev pub is_done : Exit → Bool
is_done Done = true
is_done _ = false

-- each error is none
abbrev pub AreErrorsPlain : {A : Type 0} → Result A Exit → Type 0
AreErrorsPlain r = (e : Exit) → r ≡ Err e → is_done e ≡ false

err-same : {A : Type 0} (x y : Exit) → (let q : Result A Exit = Err x in q) ≡ Err y → x ≡ y
err-same x y p = cc

plain-error : {A : Type 0} (x : Exit) → is_done x ≡ false → AreErrorsPlain {A = A} (Err x)
plain-error {A = A} x p e q = ap is_done (sym (err-same {A = A} x e q)) ∙ p

plain-ok : {A : Type 0} (x : A) → AreErrorsPlain (Ok x)
plain-ok x e q = cc

plain-then : {A B : Type 0} (r : Result A Exit) (next : A → Result B Exit) → AreErrorsPlain r → ((x : A) → AreErrorsPlain (next x)) → AreErrorsPlain (r >>= next)
plain-then (Ok x) next first second = second x
plain-then {B = B} (Err x) next first second = plain-error {A = B} x (first x refl)

plain-refused : {A E : Type 0} (refusal : E → Refusal) (r : Result A E) → ((x : E) → is_done (Refused (refusal x)) ≡ false) → AreErrorsPlain (or_refused refusal r)
plain-refused refusal (Ok x) plain = plain-ok x
plain-refused {A = A} refusal (Err x) plain = plain-error {A = A} (Refused (refusal x)) (plain x)

pub plain-only : {A : Type 0} (t : Bool) (x : A) (e : Exit) → is_done e ≡ false → AreErrorsPlain (only_if t x e)
plain-only true x e p = plain-ok x
plain-only {A = A} false x e p = plain-error {A = A} e p

plain-within : (most : ℕ) (name : List ℕ) (o : Option (List ℕ)) → AreErrorsPlain (within_at most name o)
plain-within most name None = plain-error {A = List ℕ} (Missing name) refl
plain-within most name (Some bytes) = plain-only (nat_le (length bytes) most) bytes (Refused (TooLong name)) refl

plain-wiring : (h : Held) (stem : List ℕ) → AreErrorsPlain (wiring_held h stem)
plain-wiring h stem = plain-then (loaded h most_file_bytes (net_file stem)) (λ bytes. wiring_of (net_file stem) bytes) (plain-within most_file_bytes (net_file stem) (h (net_file stem)))
    (λ bytes. plain-refused (refusal.Net (net_file stem)) (net_of_text bytes) (λ x. refl))

plain-chip : (h : Held) (name : List ℕ) (kind : Kind) → AreErrorsPlain (chip_held h name kind)
plain-chip h name kind = plain-then (loaded h most_file_bytes name) (λ bytes. chip_of name kind bytes) (plain-within most_file_bytes name (h name))
    (λ bytes. plain-then (or_refused (Jed name) (fuses_of_text bytes)) (λ bits. or_refused (Chip name) (cells_of kind bits)) (plain-refused (Jed name) (fuses_of_text bytes) (λ x. refl))
    (λ bits. plain-refused (Chip name) (cells_of kind bits) (λ x. refl)))

plain-chips : (h : Held) (stem : List ℕ) (lines : List ChipLine) → AreErrorsPlain (chips_held h stem lines)
plain-chips h stem [] = plain-ok (let none : List ChipCells = [] in none)
plain-chips h stem (line ∷ lines) =
    plain-then (chip_held h (jed_file stem line.name) line.kind) (λ cells. chips_held h stem lines >>= λ chips. Ok (cells ∷ chips)) (plain-chip h (jed_file stem line.name) line.kind)
    (λ cells. plain-then (chips_held h stem lines) (λ chips. Ok (cells ∷ chips)) (plain-chips h stem lines) (λ chips. plain-ok (cells ∷ chips)))

plain-parts : (h : Held) (stem : List ℕ) → AreErrorsPlain (parts_held h stem)
plain-parts h stem = plain-then (wiring_held h stem) (λ net. chips_held h stem net.chips >>= λ chips. Ok (record { net = net; chips = chips })) (plain-wiring h stem)
    (λ net. plain-then (chips_held h stem net.chips) (λ chips. Ok (record { net = net; chips = chips })) (plain-chips h stem net.chips) (λ chips. plain-ok (let b : Joined = record { net = net; chips = chips } in b)))

pub plain-plan : (h : Held) (name : List ℕ) → AreErrorsPlain (plan_held h name)
plain-plan h name = plain-then (loaded h most_file_bytes name) (λ bytes. plan_of name bytes) (plain-within most_file_bytes name (h name))
    (λ bytes. plain-refused (PlanText name) (plan_of_text bytes) (λ x. refl))

-- nor is the refusal of a board
pub board-plain : (h : Held) (stem : List ℕ) (e : Exit) → JudgesBoard stem h (Err e) → is_done e ≡ false
board-plain h stem e (inl p) = ap is_done p.2.3
board-plain h stem e (inr p) = ap is_done (err-same {A = Joined} e p.0 p.2) ∙ plain-parts h stem p.0 p.1
