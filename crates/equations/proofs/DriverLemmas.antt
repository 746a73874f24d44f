-- Lists of drivers, one for each net.
use Rattle.std.proofs.Common.{ℕ, ◌≡◌, ◌<◌, ◌+◌, List, [], ◌∷◌, ◌++◌, length, map, replicate, refl, sym, ap, ◌∙◌, arith, suc, add-zero}
use Rattle.std.specs.Prelude.{Vec}
use Rattle.std.specs.declared.alloc.Global.{Global}
use Rattle.std.specs.List.{zip}
use Rattle.std.proofs.Math.ListN.{set, get_or}
use Rattle.std.proofs.lemmas.List.{map-set, get_or-map}
use Rattle.std.proofs.lemmas.Simd.{splat_is_map}
use Rattle.mig_base.specs.declared.circuit.NetKind.{NetKind}
use Rattle.mig_base.specs.declared.circuit.Wire.{Wire}
use Rattle.mig_base.specs.declared.nets.Net.{Net}
use Rattle.mig_base.specs.declared.nets.NetLine.{NetLine}
use Rattle.mig_base.specs.declared.nets.Pull.{Pull}
use Rattle.mig_base.specs.declared.nets.Pull.TheVariants.{Free}
use Rattle.mig_base.specs.declared.circuit.NetKind.TheVariants.{Ground, Power, Inner}
use Rattle.mig_base.specs.Boards.{ChipUnit, drives, places_from, privates, kinds_from, kinds_of, wires_from}
use Rattle.equations.specs.Tables.{wire_of}

abbrev pub contents : List (Vec ℕ Global) → List (List ℕ)
contents lists = map (λ list. list.items) lists

pub contents-push : (lists : List (Vec ℕ Global)) (at unit : ℕ) (old new : Vec ℕ Global) → at < length lists → old ≡ get_or lists at old → new.items ≡ old.items ++ unit ∷ [] →
    contents (set lists at new) ≡ set (contents lists) at (get_or (contents lists) at [] ++ unit ∷ [])
contents-push lists at unit old new h is pushed =
    let items : Vec ℕ Global → List ℕ = λ list. list.items in
    map-set items lists at new
    ∙ ap (set (contents lists) at) (pushed ∙ ap (λ (list : List ℕ). list ++ unit ∷ []) (ap items is ∙ sym (get_or-map items lists at old [] h)))

pub contents-zip : (kinds : List (NetKind × Pull)) (lists : List (Vec ℕ Global)) → map (λ w. wire_of (w.0, w.1.items)) (zip kinds lists) ≡ map wire_of (zip kinds (contents lists))
contents-zip [] lists = refl
contents-zip (k ∷ ks) [] = refl
contents-zip (k ∷ ks) (l ∷ ls) = ap (λ (ws : List Wire). wire_of (k, l.items) ∷ ws) (contents-zip ks ls)

pub wires-zip : (net : Net) (units : List ChipUnit) (n : ℕ) (kinds : List (NetKind × Pull)) (lists : List (List ℕ)) → length lists ≡ length kinds →
    ((k : ℕ) → k < length kinds → get_or lists k [] ≡ places_from (drives net units (n + k)) 0 units) → map wire_of (zip kinds lists) ≡ wires_from net units n kinds
wires-zip net units n [] lists e h = refl
wires-zip net units n (k ∷ ks) [] e h = absurd (omega arith)
wires-zip net units n (k ∷ ks) (l ∷ ls) e h =
    let driven : ℕ → List ℕ = λ m. places_from (drives net units m) 0 units in
    let here : l ≡ driven n = h 0 (omega arith) ∙ ap driven (add-zero n) in
    let later : map wire_of (zip ks ls) ≡ wires_from net units (n + 1) ks =
    wires-zip net units (n + 1) ks ls (omega arith) (λ j b. let s : n + suc j ≡ n + 1 + j = omega arith in h (suc j) (omega arith) ∙ ap driven s) in
    ap (λ (d : List ℕ). wire_of (k, d) ∷ map wire_of (zip ks ls)) here ∙ ap (λ (ws : List Wire). wire_of (k, driven n) ∷ ws) later

pub kinds-are : (net : Net) (lines : List NetLine) (n : ℕ) (kinds : List (NetKind × Pull)) → kinds ≡ (Ground, Free) ∷ (Power, Free) ∷ kinds_from 0 lines ++ replicate n (Inner, Free) →
    lines ≡ net.nets → n ≡ length (privates net) → kinds ≡ kinds_of net
kinds-are net lines n kinds e named few =
    e ∙ ap (λ (ls : List NetLine). (Ground, Free) ∷ (Power, Free) ∷ kinds_from 0 ls ++ replicate n (Inner, Free)) named
    ∙ ap (λ (ks : List (NetKind × Pull)). (Ground, Free) ∷ (Power, Free) ∷ kinds_from 0 net.nets ++ ks) (splat_is_map (privates net) n (Inner, Free) (sym few))
