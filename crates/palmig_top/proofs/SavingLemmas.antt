-- What a save that failed leaves of a list of files.
use Rattle.std.proofs.Common.{ℕ, zero, suc, ◌≡◌, ◌+◌, List, [], ◌∷◌, ◌++◌, map, take, Option, Some, None, Err, refl, sym, subst, ap, ◌∙◌, inl}
use Rattle.std.specs.Prelude.{slice_get}
use Rattle.std.specs.Option.{option_map}
use Rattle.mig_io.specs.Counts.{Counts, NoneFell}
use Rattle.mig_io.specs.Holding.{Held, SameBut, placed}
use Rattle.answers.specs.declared.exit.Exit.{Exit}
use Rattle.answers.specs.Exits.{Class, class_of}
use Rattle.answers.specs.Exits.Class.{Worded, Judged, Missed, Unread, Unsaved, Unsent, Wanting}
use Rattle.palmig_top.specs.declared.saves.NewFile.{NewFile}
use Rattle.verdicts.specs.Outcomes.{File}
use Rattle.verdicts.specs.Answer.{placed_all}
use Rattle.palmig_top.specs.Saving.{SavesOne, SavesAll, FailsOneAs, FailsAllAs, file_of}
use Rattle.palmig_top.proofs.Chains.{rose-before}

-- the first k files are in place, and the save of the next one failed
stopped-as : (c : Class) (files : List File) (k : ℕ) (old mid new : Option Held) (start before now : Counts) (name bytes : List ℕ) → NoneFell start before →
    mid ≡ option_map (placed_all (take k files)) old → slice_get files k ≡ Some (name, bytes) → FailsOneAs c name mid new before now → FailsAllAs c files old new start now
stopped-as (Unsaved f) files k None mid new start before now name bytes fell placed at saved = (rose-before start.save_faults before.save_faults now.save_faults fell.save_faults saved.2, tt)
stopped-as (Unsaved f) files k (Some h) mid new start before now name bytes fell placed at saved = (
  rose-before start.save_faults before.save_faults now.save_faults fell.save_faults saved.2,
  (
    k,
    record {
      bytes = bytes;
      next = subst (λ n. slice_get files k ≡ Some (n, bytes)) (sym saved.0) at;
      others = subst (λ n. SameBut n (Some (placed_all (take k files) h)) new) (sym saved.0) (subst (λ m. SameBut name m new) placed saved.1);
    },
  ),
)
stopped-as Wanting files k None mid new start before now name bytes fell placed at saved = tt
stopped-as Wanting files k (Some h) mid new start before now name bytes fell placed at saved = inl (k, saved ∙ placed)
stopped-as Worded files k old mid new start before now name bytes fell placed at saved = absurd saved
stopped-as Judged files k old mid new start before now name bytes fell placed at saved = absurd saved
stopped-as (Missed f) files k old mid new start before now name bytes fell placed at saved = absurd saved
stopped-as (Unread f) files k old mid new start before now name bytes fell placed at saved = absurd saved
stopped-as Unsent files k old mid new start before now name bytes fell placed at saved = absurd saved

pub stopped : (files : List File) (k : ℕ) (old mid new : Option Held) (start before now : Counts) (name bytes : List ℕ) (e : Exit) → NoneFell start before →
    mid ≡ option_map (placed_all (take k files)) old → slice_get files k ≡ Some (name, bytes) →
    SavesOne name bytes mid new before now (Err e) → SavesAll files old new start now (Err e)
stopped files k old mid new start before now name bytes e fell placed at saved = stopped-as (class_of e) files k old mid new start before now name bytes fell placed at saved

pub same_held : (old : Option Held) (files : List File) → old ≡ option_map (placed_all (take 0 files)) old
same_held None files = refl
same_held (Some h) [] = refl
same_held (Some h) (f ∷ fs) = refl

placed_all-more : (fs : List File) (f : File) (h : Held) → placed_all (fs ++ f ∷ []) h ≡ placed f.0 (Some f.1) (placed_all fs h)
placed_all-more [] f h = refl
placed_all-more (g ∷ gs) f h = placed_all-more gs f (placed g.0 (Some g.1) h)

-- one more file is in place
pub one_more : (files front : List File) (f : File) (old mid new : Option Held) → mid ≡ option_map (placed_all front) old →
    new ≡ option_map (placed f.0 (Some f.1)) mid → new ≡ option_map (placed_all (front ++ f ∷ [])) old
one_more files front f None mid new p q = q ∙ ap (option_map (placed f.0 (Some f.1))) p
one_more files front f (Some h) mid new p q = q ∙ ap (option_map (placed f.0 (Some f.1))) p ∙ ap (λ (k : Held). Some k) (sym (placed_all-more front f h))

pub map-take : (fs : List NewFile) (k : ℕ) → map file_of (take k fs) ≡ take k (map file_of fs)
map-take fs zero = refl
map-take [] (suc k) = refl
map-take (f ∷ fs) (suc k) = ap (λ (q : List File). file_of f ∷ q) (map-take fs k)

pub item-map : (fs : List NewFile) (k : ℕ) (f : NewFile) → slice_get fs k ≡ Some f → slice_get (map file_of fs) k ≡ Some (file_of f)
item-map [] k f e = cc
item-map (g ∷ gs) zero f e = let same : g ≡ f = cc in ap (λ (q : NewFile). Some (file_of q)) same
item-map (g ∷ gs) (suc k) f e = item-map gs k f e

files-append : (fs : List NewFile) (f : NewFile) → map file_of (fs ++ f ∷ []) ≡ map file_of fs ++ file_of f ∷ []
files-append [] f = refl
files-append (g ∷ gs) f = ap (λ (q : List File). file_of g ∷ q) (files-append gs f)

pub take-files : (fs : List NewFile) (k : ℕ) (f : NewFile) → take (k + 1) fs ≡ take k fs ++ f ∷ [] → take (k + 1) (map file_of fs) ≡ take k (map file_of fs) ++ file_of f ∷ []
take-files fs k f e =
    sym (map-take fs (k + 1)) ∙ ap (λ (q : List NewFile). map file_of q) e ∙ files-append (take k fs) f ∙ ap (λ (q : List File). q ++ file_of f ∷ []) (map-take fs k)
