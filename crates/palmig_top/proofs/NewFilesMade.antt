-- What is made for saving, step by step.
use Rattle.std.proofs.Common.{ℕ, ◌≡◌, Bool, true, false, List, [], ◌∷◌, ◌++◌, map, length, Result, Ok, Err, MatchResult, refl, sym, ap, ◌∙◌, subst, append_assoc}
use Rattle.std.specs.Prelude.{IfOk}
use Rattle.std.specs.List.{AllByRecursion}
use Rattle.mig_base.specs.declared.kinds.Kind.{Kind}
use Rattle.mig_base.specs.declared.kinds.Kind.TheVariants.{Gal16V8}
use Rattle.mig_base.specs.declared.cells.ChipCells.{ChipCells}
use Rattle.mig_base.specs.declared.nets.Net.{Net}
use Rattle.mig_base.specs.declared.nets.ChipLine.{ChipLine}
use Rattle.mig_base.specs.declared.plans.Plan.{Plan}
use Rattle.mig_base.specs.declared.circuit.Circuit.{Circuit}
use Rattle.mig_base.specs.Boards.{circuit as circuit_for}
use Rattle.mig_base.specs.DeviceTables.{is_gal}
use Rattle.mig_base.specs.WellFormed.{IsWellFormed}
use Rattle.mig_base.specs.WrittenBoard.{written_net, IsWritable}
use Rattle.mig_base.specs.WrittenPlan.{written_plan}
use Rattle.mig_base.specs.WrittenFuses.{written_fuses}
use Rattle.new_board.specs.declared.types.FittedChip.{FittedChip}
use Rattle.new_board.specs.Files.{NewFile, fuse_file, file_under, last_files, files_of}
use Rattle.new_board.specs.NewFiles.{new_net}
use Rattle.new_board.specs.OneForOne.{one_for_one}
use Rattle.rebuilt_boards.specs.RebuiltBoards.{IsBuiltWell, built_chips}
use Rattle.answers.specs.declared.exit.Exit.{Exit}
use Rattle.answers.specs.declared.exit.Exit.TheVariants.{Refused, Memory}
use Rattle.answers.specs.declared.exit.Refusal.TheVariants.{Later}
use Rattle.answers.specs.declared.words.Migration.{Migration}
use Rattle.board.specs.Joined.{Joined, equations_of}
use Rattle.board.proofs.GivenLaws.{made-long}
use Rattle.palmig_top.specs.declared.prepared.Prepared.{Prepared}
use Rattle.verdicts.specs.HeldBoard.{net_file, plan_file, jed_file}
use Rattle.verdicts.specs.Outcomes.{File, Outcome, only_if, done}
use Rattle.verdicts.specs.commands.Migrate.{saved_files, plan_files, built, new_chips, new_wiring, done_line, migrated, migrated_or_later, is_taken_board}
use Rattle.palmig_top.specs.Steps.{Finds, IsEnd}
use Rattle.palmig_top.specs.Reading.{IsReadBoard}
use Rattle.palmig_top.specs.Preparing.{outcome_in}
use Rattle.built_files.specs.BoardFiles.{IsWritableChip, as_file, as_files}
use Rattle.built_files.specs.declared.writing.FuseFile.{FuseFile}
use Rattle.built_files.specs.declared.writing.NewFiles.{NewFiles}
use Rattle.rebuilt_boards.proofs.BuiltWell.{built-well}
use Rattle.palmig_top.proofs.HeldParts.{read-writable, taken-board}
use Rattle.palmig_top.proofs.NewFilesHeld.{chip_file}

-- as many cells as chip lines were read
pub read-as-many : (parts : Joined) → IsReadBoard parts → length parts.chips ≡ length parts.net.chips
read-as-many parts r = made-long parts.net.chips parts.chips r.chips

built-of : (parts : Joined) → IsReadBoard parts → is_taken_board parts ≡ true → IsBuiltWell parts.net parts.chips
built-of parts r form = built-well parts.net parts.chips (read-writable parts.net r.wiring) (taken-board parts r form)

-- GAL16V8 chips with cells that some fuses make
pub writable-from : (fs : List FittedChip) → AllByRecursion (λ f. f.cells.kind ≡ Gal16V8) fs → AllByRecursion (λ f. IsWellFormed f.cells) fs → AllByRecursion IsWritableChip fs
writable-from [] k w = tt
writable-from (f ∷ fs) k w = (record { kind = ap is_gal k.0; cells = w.0 }, writable-from fs k.1 w.1)

-- the new chips' fuses can be written
pub writable-chips : (parts : Joined) → IsReadBoard parts → is_taken_board parts ≡ true → (made : List FittedChip) → made ≡ new_chips parts → AllByRecursion IsWritableChip made
writable-chips parts r form made e =
    let well = built-of parts r form in
    subst (λ (fs : List FittedChip). AllByRecursion IsWritableChip fs) (sym e) (writable-from (built_chips parts.net parts.chips) well.kinds well.cells)

-- the new wiring has a text
pub writable-wiring : (parts : Joined) → IsReadBoard parts → is_taken_board parts ≡ true → (made : Net) → made ≡ new_wiring parts → IsWritable made
writable-wiring parts r form made e = subst IsWritable (sym e) (built-of parts r form).wiring

spread : (stem : List ℕ) (fs : List FittedChip) (rest : List NewFile) → map (file_under stem) (map fuse_file fs ++ rest) ≡ map (chip_file stem) fs ++ map (file_under stem) rest
spread stem [] rest = refl
spread stem (f ∷ fs) rest = ap (λ (q : List File). chip_file stem f ∷ q) (spread stem fs rest)

-- the files of new chips one by one
pub files-spread : (stem : List ℕ) (net : Net) (p : Plan) (chips : List FittedChip) → map (file_under stem) (files_of net p chips)
    ≡ map (chip_file stem) chips ++ (plan_file stem, written_plan p) ∷ (net_file stem, written_net (new_net net chips)) ∷ []
files-spread stem net p chips = spread stem chips (last_files p (new_net net chips))

-- what is saved and reported is what should be
pub outcome-made : (stem : List ℕ) (parts : Joined) (chips : List FittedChip) (plan : Plan) (net : Net) (files : List NewFile) (saves : List File) (report : List ℕ) (lines : List ChipLine) (counted : List FittedChip) →
    chips ≡ new_chips parts → plan ≡ one_for_one parts.net parts.chips → net ≡ new_wiring parts → files ≡ map fuse_file chips ++ last_files plan net → saves ≡ map (file_under stem) files →
    report ≡ done_line (length lines) (length counted) → lines ≡ parts.net.chips → counted ≡ chips → done saves report ≡ migrated stem parts
outcome-made stem parts chips plan net files saves report lines counted c p n f s r l d =
    ap (λ (x : List File). done x report) (s ∙ ap (map (file_under stem)) (f
    ∙ ap (λ (q : List FittedChip). map fuse_file q ++ last_files plan net) c
    ∙ ap (λ (q : Plan). map fuse_file (new_chips parts) ++ last_files q net) p
    ∙ ap (λ (q : Net). map fuse_file (new_chips parts) ++ last_files (one_for_one parts.net parts.chips) q) n))
    ∙ ap (λ (x : List ℕ). done (saved_files stem parts) x) (r
    ∙ ap (λ (q : List ChipLine). done_line (length q) (length counted)) l ∙ ap (λ (q : List FittedChip). done_line (length parts.net.chips) (length q)) (d ∙ c))

-- the files by a plan and their report
pub built-made : (stem : List ℕ) (parts : Joined) (p : Plan) (chips : List FittedChip) (files : List NewFile) (saves : List File) (report : List ℕ) (lines : List ChipLine) (counted : List FittedChip) →
    files ≡ files_of parts.net p chips → saves ≡ map (file_under stem) files → report ≡ done_line (length lines) (length counted) → lines ≡ parts.net.chips → counted ≡ chips →
    done saves report ≡ built stem parts p chips
built-made stem parts p chips files saves report lines counted f s r l d =
    ap (λ (x : List File). done x report) (s ∙ ap (map (file_under stem)) f)
    ∙ ap (λ (x : List ℕ). done (plan_files stem parts p chips) x) (r
    ∙ ap (λ (q : List ChipLine). done_line (length q) (length counted)) l ∙ ap (λ (q : List FittedChip). done_line (length parts.net.chips) (length q)) d)

-- a board of another form is left for later
pub left-for-later : (m : Migration) (parts : Joined) (name : List ℕ) → is_taken_board parts ≡ false → name ≡ net_file m.old →
    Finds {X = Prepared} outcome_in (λ q. migrated_or_later m parts ≡ q) (Err (Refused (Later name)))
left-for-later m parts name e n =
    (tt, ap (λ (b : Bool). only_if b (migrated m.new parts) (Refused (Later (net_file m.old)))) e ∙ ap (λ (q : List ℕ). Err (Refused (Later q))) (sym n))

-- a board of the form is done, but for want of memory
pub done-or-memory : (m : Migration) (parts : Joined) (r : Result Prepared Exit) → is_taken_board parts ≡ true →
    MatchResult r (λ p. outcome_in p ≡ migrated m.new parts) (λ e. e ≡ Memory) → Finds outcome_in (λ q. migrated_or_later m parts ≡ q) r
done-or-memory m parts (Ok p) form made = ap (λ (b : Bool). only_if b (migrated m.new parts) (Refused (Later (net_file m.old)))) form ∙ ap (λ (o : Outcome). Ok o) (sym made)
done-or-memory m parts (Err e) form made = subst (λ (x : Exit). Finds outcome_in (λ q. migrated_or_later m parts ≡ q) (Err x)) (sym made) tt

-- what is done is an end
pub done-ends : (saves : List File) (report : List ℕ) → IsEnd (done saves report)
done-ends saves report = record { class = refl; sound = tt; own = λ own. let no : ⊥ = cc in absurd no }

pub found-ends : (m : Migration) (parts : Joined) (r : Result Prepared Exit) → Finds outcome_in (λ q. migrated_or_later m parts ≡ q) r → IfOk r (λ p. IsEnd (outcome_in p))
found-ends m parts (Err e) f = tt
found-ends m parts (Ok p) f = at (is_taken_board parts) f
  where
    ok-same : (x y : Outcome) → (let q : Result Outcome Exit = Ok x in q) ≡ Ok y → x ≡ y
    ok-same x y q = cc

    at : (b : Bool) → only_if b (migrated m.new parts) (Refused (Later (net_file m.old))) ≡ Ok (outcome_in p) → IsEnd (outcome_in p)
    at true e = let same : migrated m.new parts ≡ outcome_in p = ok-same (migrated m.new parts) (outcome_in p) e in subst IsEnd same (done-ends _ _)
    at false e = let no : ⊥ = cc in absurd no

-- what was made of the wiring and the cells as they were lent
pub built-on : {T : Type 0} {made : T} {net mine : Net} {cells chips : List ChipCells} (build : Net → List ChipCells → T) → net ≡ mine → cells ≡ chips → made ≡ build net cells → made ≡ build mine chips
built-on {net = net} {chips = chips} build e f m = m ∙ ap (build net) f ∙ ap (λ (n : Net). build n chips) e

-- the circuit as it was lent is that of the wiring and the cells as they were lent
pub circuit-on : (board : Joined) (made : Circuit) (net : Net) (cells : List ChipCells) → made ≡ equations_of board → net ≡ board.net → cells ≡ board.chips → made ≡ circuit_for net cells
circuit-on board made net cells e f g = e ∙ ap (λ (n : Net). circuit_for n board.chips) (sym f) ∙ ap (circuit_for net) (sym g)

-- as many cells as chip lines, as they were lent
pub many-on : (board : Joined) (net : Net) (cells : List ChipCells) → IsReadBoard board → net ≡ board.net → cells ≡ board.chips → length cells ≡ length net.chips
many-on board net cells r f g = ap (λ (q : List ChipCells). length q) g ∙ read-as-many board r ∙ ap (λ (n : Net). length n.chips) (sym f)

spread-named : (stem : List ℕ) (jeds : List FuseFile) (rest : List NewFile) → map (file_under stem) (map as_file jeds ++ rest) ≡ map (λ f. file_under stem (as_file f)) jeds ++ map (file_under stem) rest
spread-named stem [] rest = refl
spread-named stem (f ∷ fs) rest = ap (λ (q : List File). file_under stem (as_file f) ∷ q) (spread-named stem fs rest)

-- the fuse files, the plan and the wiring by their names
pub named-files : (stem : List ℕ) (files : NewFiles) (one two three : List File) (plan net : List ℕ) → one ≡ map (λ f. file_under stem (as_file f)) files.jeds.items →
    two ≡ one ++ (plan, files.plan.items) ∷ [] → three ≡ two ++ (net, files.net.items) ∷ [] → plan ≡ plan_file stem → net ≡ net_file stem → three ≡ map (file_under stem) (as_files files)
named-files stem files one two three plan net o t r p n =
    r ∙ ap (λ (q : List File). q ++ (net, files.net.items) ∷ []) (t ∙ ap (λ (q : List File). q ++ (plan, files.plan.items) ∷ []) o)
    ∙ append_assoc (map (λ f. file_under stem (as_file f)) files.jeds.items) ((plan, files.plan.items) ∷ []) ((net, files.net.items) ∷ [])
    ∙ ap (λ (q : List ℕ). map (λ f. file_under stem (as_file f)) files.jeds.items ++ (q, files.plan.items) ∷ (net, files.net.items) ∷ []) p
    ∙ ap (λ (q : List ℕ). map (λ f. file_under stem (as_file f)) files.jeds.items ++ (plan_file stem, files.plan.items) ∷ (q, files.net.items) ∷ []) n
    ∙ sym (spread-named stem files.jeds.items _)
