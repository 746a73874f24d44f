-- One more fuse file.
use Rattle.std.proofs.Common.{◌≡◌, ◌∙◌, List, [], ◌∷◌, ◌++◌, map, refl, sym, ap}
use Rattle.new_board.specs.declared.types.FittedChip.{FittedChip}
use Rattle.new_board.specs.Files.{NewFile, fuse_file}

files-append : (cs : List FittedChip) (c : FittedChip) → map fuse_file (cs ++ c ∷ []) ≡ map fuse_file cs ++ fuse_file c ∷ []
files-append [] c = refl
files-append (d ∷ cs) c = ap (λ (q : List NewFile). fuse_file d ∷ q) (files-append cs c)

-- one more chip has its file
pub files-more : (front more : List FittedChip) (c : FittedChip) (old new : List NewFile) → more ≡ front ++ c ∷ [] → old ≡ map fuse_file front →
    new ≡ old ++ fuse_file c ∷ [] → new ≡ map fuse_file more
files-more front more c old new e was now =
    now ∙ ap (λ (q : List NewFile). q ++ fuse_file c ∷ []) was ∙ sym (files-append front c) ∙ ap (λ (q : List FittedChip). map fuse_file q) (sym e)
