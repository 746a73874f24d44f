-- Marks on what has to be made anew.
use Rattle.std.specs.Prelude.{Bool, true, false, length, replicate, slice_index_or}
use Rattle.mig_base.specs.declared.circuit.Circuit.{Circuit}
use Rattle.reader_lists.specs.declared.lists.Reader.{Reader}
use Rattle.reader_lists.specs.declared.lists.Reader.TheVariants.{ByNet, ByRegister, ByUnit}
use Rattle.reader_lists.specs.declared.marks.Marks.{Marks}

-- whether it is marked; what the board doesn't have is
abbrev pub marked_in : Marks → Reader → Bool
marked_in m (ByNet n) = slice_index_or m.nets n true
marked_in m (ByRegister k) = slice_index_or m.registers k true
marked_in m (ByUnit u) = slice_index_or m.units u true

-- no marks
abbrev pub unmarked_of : Circuit → Marks
unmarked_of c = record { nets = replicate (length c.nets) false; registers = replicate (length c.registers) false; units = replicate (length c.units) false }
