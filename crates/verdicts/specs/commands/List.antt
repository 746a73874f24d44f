-- list: the listing of one chip.
use Rattle.std.specs.Prelude.{ℕ, ◌≡◌, List, [], Result, Ok, codes}
use Rattle.mig_base.specs.declared.cells.ChipCells.{ChipCells}
use Rattle.mig_base.specs.Names.{file_name_of}
use Rattle.mig_io.specs.Holding.{Held}
use Rattle.listing.specs.ListedChip.{listed}
use Rattle.answers.specs.declared.exit.Exit.{Exit}
use Rattle.answers.specs.declared.words.Listing.{Listing}
use Rattle.verdicts.specs.Outcomes.{◌>>=◌, Outcome, EndsWith, done}
use Rattle.verdicts.specs.JudgedBoard.{chip_held}

-- the file that is listed
abbrev pub listed_file : Listing → List ℕ
listed_file l = file_name_of l.stem l.chip (codes "jed")

-- nothing is saved, and the report is the chip's listing
abbrev pub listed_outcome : ChipCells → Outcome
listed_outcome cells = done [] (listed cells)

-- one file
abbrev pub prepared_listing : Listing → Held → Result Outcome Exit
prepared_listing l held = chip_held held (listed_file l) l.kind >>= λ cells. Ok (listed_outcome cells)

abbrev pub JudgesListing : Listing → Held → Outcome → Type 0
JudgesListing l held o = EndsWith (λ r. prepared_listing l held ≡ r) o

abbrev pub LoadsListing : Listing → Held → List ℕ → Type 0
LoadsListing l held f = f ≡ listed_file l
