-- The fields of a text.
use Rattle.std.specs.Prelude.{ℕ, ◌≡◌, ◌+◌, Bool, List, [], length, filter, nat_le, Result, Ok, Err}
use Rattle.mig_base.specs.declared.jedec.Field.{Field}
use Rattle.mig_base.specs.declared.jedec.JedError.{JedError}
use Rattle.mig_base.specs.declared.jedec.JedError.TheVariants.{NoStx, NoEtx}
use Rattle.mig_base.specs.First.{needed}
use Rattle.jed_text.specs.declared.read.Transmission.{Transmission}
use Rattle.mig_base.specs.FuseText.{cut_at, pieces, fields_of}

-- what stands between STX and ETX, its place, and what follows ETX
pub record Sent : Type 0 where
  pub at : ℕ
  pub body : List ℕ
  pub tail : List ℕ

-- what a text sends: from the first STX to the first ETX behind it
abbrev pub sent_in : List ℕ → Result Sent JedError
sent_in bytes =
    needed NoStx (cut_at 2 bytes) (λ begun.
    needed NoEtx (cut_at 3 begun.1) (λ ended.
    Ok (record { at = length begun.0 + 1; body = ended.0; tail = ended.1 })))

-- the answer of a reader of what a text sends
abbrev pub IsSent : List ℕ → Result Transmission JedError → Type 0
IsSent bytes (Ok t) = sent_in bytes ≡ Ok (record { at = t.body.at; body = t.body.text.now; tail = t.tail.now })
IsSent bytes (Err e) = sent_in bytes ≡ Err e

-- something other than blanks stands in the field
abbrev pub is_written : Field → Bool
is_written f = nat_le 1 (length f.text)

-- the fields of a body that begins at this place, without those of blanks alone
abbrev pub written_fields : ℕ → List ℕ → List Field
written_fields at body = filter is_written (fields_of at (pieces body))

-- the fields of what is sent; none where nothing is
abbrev pub fields_sent : Result Sent JedError → List Field
fields_sent (Ok sent) = written_fields sent.at sent.body
fields_sent (Err e) = []

-- the fields of a text, without those of blanks alone
abbrev pub fields_of_text : List ℕ → List Field
fields_of_text bytes = fields_sent (sent_in bytes)
