-- What a text sends.
use Rattle.std.proofs.Common.{ℕ, ◌≡◌, ◌+◌, Bool, List, Option, Some, None, Result, Ok, Err, length, refl}
use Rattle.mig_base.specs.declared.jedec.JedError.{JedError}
use Rattle.mig_base.specs.declared.jedec.JedError.TheVariants.{NoStx, NoEtx}
use Rattle.mig_base.specs.First.{needed}
use Rattle.mig_base.specs.FuseText.{cut_at, fuses_between, fuses_of_text}
use Rattle.jed_text.specs.Transmissions.{Sent, sent_in}

-- the fuses of what is sent
abbrev pub fuses_sent : Result Sent JedError → Result (List Bool) JedError
fuses_sent (Ok s) = fuses_between s.at s.body s.tail
fuses_sent (Err e) = Err e

pub text-sent : (bytes : List ℕ) → fuses_of_text bytes ≡ fuses_sent (sent_in bytes)
text-sent bytes = begun (cut_at 2 bytes)
  where
    ended : (front : List ℕ) (o : Option (List ℕ × List ℕ)) →
        needed NoEtx o (λ e. fuses_between (length front + 1) e.0 e.1)
        ≡ fuses_sent (needed NoEtx o (λ e. let r : Result Sent JedError = Ok (record { at = length front + 1; body = e.0; tail = e.1 }) in r))
    ended front None = refl
    ended front (Some e) = refl

    begun : (o : Option (List ℕ × List ℕ)) →
        needed NoStx o (λ b. needed NoEtx (cut_at 3 b.1) (λ e. fuses_between (length b.0 + 1) e.0 e.1))
        ≡ fuses_sent (needed NoStx o (λ b. needed NoEtx (cut_at 3 b.1) (λ e. let r : Result Sent JedError = Ok (record { at = length b.0 + 1; body = e.0; tail = e.1 }) in r)))
    begun None = refl
    begun (Some b) = ended b.0 (cut_at 3 b.1)
