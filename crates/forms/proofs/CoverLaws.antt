-- The products of a cover, by a table of the literals of the Booleans.
use Rattle.std.proofs.Common.{ℕ, ◌≡◌, ◌+◌, ◌<◌, length, take, get_or, Bool, true, false, List, [], ◌∷◌, ◌++◌, map, Option, Some, None, refl, sym, ap, ◌∙◌, subst}
use Rattle.std.specs.List.{filter_map, flat_map, slice_get, cons_option}
use Rattle.std.specs.Option.{option_map}
use Rattle.std.proofs.lemmas.List.{map-append, take_more}
use Rattle.std.proofs.lemmas.List.Elements.{filter_map-append}
use Rattle.std.proofs.lemmas.Option.{slice_get-map}
use Rattle.bdd.specs.Tree.{Point}
use Rattle.mig_base.specs.declared.plans.Part.{Part}
use Rattle.mig_base.specs.declared.nets.Var.{Var}
use Rattle.mig_base.specs.declared.nets.VarProduct.{VarProduct}
use Rattle.mig_base.specs.declared.plans.Part.TheVariants.{Logic}
use Rattle.bdd.specs.Diagram.{Diagram, function_of}
use Rattle.bdd.specs.declared.Ref.{Ref}
use Rattle.primes.specs.Prime.{Product, Function, HasMorePrimes}
use Rattle.cover.specs.Cover.{IsCover}
use Rattle.rails.specs.declared.Side.{Side}
use Rattle.rails.specs.declared.Rail.{Rail}
use Rattle.rails.specs.Variables.{all_rails, rails_from, rails_of, sides}
use Rattle.rails.specs.Points.{literal_of, Is}
use Rattle.board.specs.Joined.{Joined}
use Rattle.board.specs.Variables.{IsVariable}
use Rattle.joiner.specs.Joined.{unit_part, IsCone, Names, itself, through}
use Rattle.joiner.specs.AbsorbedNets.{AreOver}
use Rattle.joiner.proofs.PartReads.{part-over}
use Rattle.mig_base.proofs.Amongs.{map-among}
use Rattle.plans.specs.Forms.{over_board, rail_literal, cover_products, most_primes, IsCoverOf}
use Rattle.forms.specs.declared.covers.Literals.{Literals}
use Rattle.forms.specs.Cones.{AreVariables, literals_of, literals_at, chosen, literal_in, products_in}

chosen-literal : (b : Joined) (plain : Bool) (o : Option Rail) → option_map (chosen plain) (option_map (literals_of b) o) ≡ option_map (λ (r : Rail). over_board b (literal_of r plain)) o
chosen-literal b plain None = refl
chosen-literal b true (Some r) = refl
chosen-literal b false (Some r) = refl

literal-found : (b : Joined) (rails : List Rail) (l : ℕ × Bool) → literal_in (map (literals_of b) rails) l ≡ rail_literal b rails l
literal-found b rails l = ap (option_map (chosen l.1)) (slice_get-map (literals_of b) rails l.0) ∙ chosen-literal b l.1 (slice_get rails l.0)

pub products-found : (b : Joined) (vars : List (Var × Bool)) (terms : List Product) → products_in (map (literals_of b) (all_rails vars)) terms ≡ cover_products b vars terms
products-found b vars terms = λ i. map (filter_map (λ l. literal-found b (all_rails vars) l i)) terms

-- the table, variable by variable

rails-renumbered : (b : Joined) (n m : ℕ) (w : Var × Bool) → map (literals_of b) (rails_of n w) ≡ map (literals_of b) (rails_of m w)
rails-renumbered b n m w = at (sides w.1)
  where
    at : (ss : List Side) → map (literals_of b) (map (λ s. record { var = w.0; variable = n; side = s }) ss) ≡ map (literals_of b) (map (λ s. record { var = w.0; variable = m; side = s }) ss)
    at [] = refl
    at (s ∷ ss) = ap (λ (xs : List Literals). literals_of b (record { var = w.0; variable = n; side = s }) ∷ xs) (at ss)

table-from : (b : Joined) (n : ℕ) (vars : List (Var × Bool)) → flat_map (literals_at b) vars ≡ map (literals_of b) (rails_from n vars)
table-from b n [] = refl
table-from b n (w ∷ ws) =
    (λ i. rails-renumbered b 0 n w i ++ table-from b (n + 1) ws i) ∙ sym (map-append (literals_of b) (rails_of n w) (rails_from (n + 1) ws))

pub table-made : (b : Joined) (vars : List (Var × Bool)) → flat_map (literals_at b) vars ≡ map (literals_of b) (all_rails vars)
table-made b vars = table-from b 0 vars

-- what a part names is of the board

named-variable : (b : Joined) (absorbed : List ℕ) (v : Var) (terms : List VarProduct) → AreOver b terms → Names b absorbed v terms → IsVariable b v
named-variable b absorbed v terms over (itself x stands is none) = subst (IsVariable b) is (over x stands)
named-variable b absorbed v terms over (through x stands n u is by more) = named-variable b absorbed v (unit_part b u Logic).terms (part-over b u Logic) more

pub cone-variables : (b : Joined) (absorbed : List ℕ) (u : ℕ) (part : Part) (vars : List (Var × Bool)) → IsCone b absorbed (unit_part b u part).terms vars → AreVariables b vars
cone-variables b absorbed u part vars cone w a =
    named-variable b absorbed w.0 (unit_part b u part).terms (part-over b u part) ((cone.exact w.0).0 (map-among (λ (x : Var × Bool). x.0) w vars a))

-- the cover of a function by its ref

pub cover-some : (d e : Diagram) (f : Ref) (g : Function) (terms : List Product) → e ≡ d → Is d g f → IsCover (function_of e f) terms → (HasMorePrimes (function_of e f) most_primes → ⊥) → IsCoverOf g (Some terms)
cover-some d e f g terms same is cover few = subst (λ (h : Function). IsCoverOf h (Some terms)) (λ i p. at p i) (cover, few)
  where
    at : (p : Point) → function_of e f p ≡ g p
    at p = ap (λ (k : Diagram). function_of k f p) same ∙ is.means p

-- one more item

pub pushed-option : {S T : Type 0} (f : S → Option T) (xs : List S) (i : ℕ) (d : S) (o : Option T) (before after : List T) → i < length xs → o ≡ f (get_or xs i d) → after ≡ before ++ cons_option o [] →
    before ≡ filter_map f (take i xs) → after ≡ filter_map f (take (i + 1) xs)
pushed-option {S} {T} f xs i d o before after lt e k h =
    k ∙ (λ j. h j ++ cons_option (e j) []) ∙ sym (filter_map-append f (take i xs) (get_or xs i d ∷ [])) ∙ ap (filter_map f) (sym (take_more xs i d lt))
