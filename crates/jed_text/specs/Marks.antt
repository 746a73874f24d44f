-- How fuses are listed, fuse by fuse.
use Rattle.std.specs.Prelude.{ℕ, ◌+◌, Bool, true, false, ◌&&◌, ◌||◌, not, List, [], ◌∷◌, if◌then◌else◌, slice_set, slice_index_or, position, Option, Some, None, Result, Ok}
use Rattle.std.specs.Option.{option_map}
use Rattle.mig_base.specs.declared.jedec.JedError.{JedError}
use Rattle.mig_base.specs.declared.jedec.JedError.TheVariants.{FuseTwice, FuseUnset}
use Rattle.jed_text.specs.declared.marks.Mark.{Mark}
use Rattle.mig_base.specs.First.{first_refusal, made_from, unless}
use Rattle.mig_base.specs.FuseText.{Said, Listing, Statement, address_refusal, listed}

-- a fuse that is not listed
abbrev pub unlisted : Mark
unlisted = record { intact = false; blown = false }

-- a fuse that is listed with this state besides
abbrev pub with_state : Bool → Mark → Mark
with_state true m = record m { blown = true }
with_state false m = record m { intact = true }

-- the marks when the fuses from this one on are listed with these states besides
abbrev pub marked : List Mark → ℕ → List Bool → List Mark
marked marks fuse [] = marks
marked marks fuse (s ∷ ss) = marked (slice_set marks fuse (with_state s (slice_index_or marks fuse unlisted))) (fuse + 1) ss

-- the marks when a field says this besides
abbrev pub marked_by : List Mark → Said → List Mark
marked_by marks (Listing first states) = marked marks first states
marked_by marks _ = marks

-- how the fields list a fuse
abbrev pub mark_of : List Statement → ℕ → Mark
mark_of fields fuse = record { intact = listed fields fuse false; blown = listed fields fuse true }

-- the marks of so many fuses
abbrev pub marks_in : List Statement → ℕ → List Mark
marks_in fields count = made_from (mark_of fields) 0 count

-- the marks of so many fuses, unless a listing goes past them
abbrev pub marked_in : ℕ → List Statement → Result (List Mark) JedError
marked_in count fields = unless (first_refusal (λ before f. address_refusal count f) [] fields) (Ok (marks_in fields count))

-- listed with both states
abbrev pub is_twice : Mark → Bool
is_twice m = m.blown && m.intact

-- not listed
abbrev pub is_unset : Mark → Bool
is_unset m = not (m.blown || m.intact)

-- the least fuse that is listed with both states
abbrev pub twice_by : List Mark → Option JedError
twice_by marks = option_map FuseTwice (position is_twice marks)

-- the least fuse that is not listed, where no field gives the others' state
abbrev pub unset_by : Option Bool → List Mark → Option JedError
unset_by (Some state) marks = None
unset_by None marks = option_map FuseUnset (position is_unset marks)

-- the state that is listed, or else this one
abbrev pub state_by : Bool → Mark → Bool
state_by other m = if m.blown then true else (if m.intact then false else other)
