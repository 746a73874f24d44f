-- A handed plan comes to one thing.
use Rattle.std.proofs.Common.{ℕ, ◌≡◌, ◌⊎◌, List, Option, Some, None, Result, Ok, sym, ap, ◌∙◌, inl, inr}
use Rattle.mig_base.specs.declared.plans.Plan.{Plan}
use Rattle.new_board.specs.declared.types.FittedChip.{FittedChip}
use Rattle.plans.specs.Forms.{IsNewChip}
use Rattle.plans.specs.Fitting.{AreFitted, fitted_chips}
use Rattle.plans.proofs.Firsts.{each-one}
use Rattle.plans.proofs.FormLaws.{chip-one}
use Rattle.plans.proofs.BreachLaws.{breach-one}
use Rattle.mig_io.specs.Holding.{Held}
use Rattle.answers.specs.declared.exit.Exit.{Exit}
use Rattle.answers.specs.declared.words.Migration.{Migration}
use Rattle.board.specs.Joined.{Joined}
use Rattle.verdicts.specs.HeldBoard.{plan_file}
use Rattle.verdicts.specs.Outcomes.{Outcome}
use Rattle.verdicts.specs.commands.Migrate.{MigratesBy, PlansTo, IsBroken, IsBuilt, breached, built, plan_held}
use Rattle.one_verdict.proofs.OneRefusal.{then-once}

-- the new chips of a plan are one list
chips-once : (b : Joined) (p : Plan) (x y : List FittedChip) → AreFitted b p x → AreFitted b p y → x ≡ y
chips-once b p x y f g =
    f.are ∙ ap (fitted_chips b) (each-one (IsNewChip b p) (λ c s t u v. chip-one b p c s t u v) p.chips f.chips g.chips f.are_new g.are_new) ∙ sym g.are

broken-once : (b : Joined) (p : Plan) (o q : Outcome) → IsBroken b p o → IsBroken b p q → o ≡ q
broken-once b p o q x y = x.comes ∙ ap (breached b) (breach-one b p x.first y.first x.is y.is) ∙ sym y.comes

built-once : (new : List ℕ) (b : Joined) (p : Plan) (o q : Outcome) → IsBuilt new b p o → IsBuilt new b p q → o ≡ q
built-once new b p o q x y = x.comes ∙ ap (built new b p) (chips-once b p x.chips y.chips x.fitted y.fitted) ∙ sym y.comes

-- a plan has a breach or is built
made-once : (new : List ℕ) (b : Joined) (p : Plan) (o q : Outcome) → IsBroken b p o ⊎ IsBuilt new b p o → IsBroken b p q ⊎ IsBuilt new b p q → o ≡ q
made-once new b p o q (inl x) (inl y) = broken-once b p o q x y
made-once new b p o q (inr x) (inr y) = built-once new b p o q x y
made-once new b p o q (inl x) (inr y) = absurd (y.free x.first x.is)
made-once new b p o q (inr x) (inl y) = absurd (x.free y.first y.is)

planned-once : (new : List ℕ) (b : Joined) (p : Plan) (r s : Result Outcome Exit) → PlansTo new b p r → PlansTo new b p s → r ≡ s
planned-once new b p r s x y = x.1 ∙ ap (λ (o : Outcome). Ok o) (made-once new b p x.0 y.0 x.2 y.2) ∙ sym y.1

-- what comes of a board is one thing, with a plan or without
pub migrated-once : (m : Migration) (handed : Option (List ℕ)) (held : Held) (b : Joined) (r s : Result Outcome Exit) → MigratesBy m handed held b r → MigratesBy m handed held b s → r ≡ s
migrated-once m None held b r s x y = sym x ∙ y
migrated-once m (Some plan) held b r s x y =
    then-once (λ q. plan_held held (plan_file plan) ≡ q) (PlansTo m.new b) r s (λ p q u v. sym u ∙ v) (λ p q t j e f. planned-once m.new b p q t e f) x y
