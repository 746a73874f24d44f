-- What the reader takes fields to say.
use Rattle.jed_text.specs.declared.said.Said.{Said as Read}
use Rattle.jed_text.specs.declared.said.Said.TheVariants as read
use Rattle.mig_base.specs.FuseText.{Said, Count, Default, Listing, FuseSum, Kept, Other, Formless, states_of}

-- a listing keeps the text of its digits
abbrev pub said_of : Read → Said
said_of (read.Count n) = Count n
said_of (read.Default s) = Default s
said_of (read.Listing first digits) = Listing first (states_of digits.now)
said_of (read.FuseSum n) = FuseSum n
said_of read.Kept = Kept
said_of read.Other = Other
said_of read.Formless = Formless
