-- What is read of levels is what the level of the whole says.
use Rattle.std.proofs.Common.{◌≡◌, ◌≢◌, Bool, true, false, not, ◌&&◌, ◌||◌, if◌then◌else◌, refl, sym, ◌∙◌, ap, List, [], ◌∷◌, arith, inl, inr}
use Rattle.std.specs.List.{list_any, list_all}
use Rattle.mig_base.specs.Levels.{not3, and3, or3, level_at}
use Rattle.mig_base.specs.declared.levels.Level.{Level}
use Rattle.mig_base.specs.declared.levels.Level.TheVariants.{Zero, One, Z, X}
use Rattle.mig_base.specs.declared.nets.Var.{Var}
use Rattle.mig_base.specs.declared.nets.VarLit.{VarLit}
use Rattle.mig_base.specs.declared.nets.VarProduct.{VarProduct}
use Rattle.mig_base.proofs.LevelFacts.{or-known}
use Rattle.rails.specs.declared.Side.{Side}
use Rattle.rails.specs.declared.Side.TheVariants.{Pure, High, Low}
use Rattle.rails.specs.Variables.{all_rails}
use Rattle.rails.specs.Points.{literal_holds, has_literal, read_off, IsListed}
use Rattle.rails.specs.Levels.{AreLevels, IsLevel, level_of, side_under, rail_under, point_under, level_between}
use Rattle.rails.proofs.RailLemmas.{is_pure}
use Rattle.rails.proofs.FoundLemmas.{found}
use Rattle.rails.proofs.PointLemmas.{rail_level}
use Rattle.joiner.specs.Joined.{Inverted, Reading, literal_read, product_read, terms_read, inverted_read}
use Rattle.level_laws.specs.VariableLevels.{Levelling, literal_level, product_level, terms_level}
use Rattle.joiner.specs.JoinedLevels.{inverted_level}

-- a literal of this sign under a level: whether it is 1, and where the level is X, whatever `unknown` says
abbrev pub read_under : Bool → Bool → Level → Bool
read_under unknown true l = side_under unknown High l
read_under unknown false l = side_under unknown Low l

under_not : (u side : Bool) (a : Level) → read_under u side (not3 a) ≡ read_under u (not side) a
under_not u true Zero = refl
under_not u true One = refl
under_not u true Z = refl
under_not u true X = refl
under_not u false Zero = refl
under_not u false One = refl
under_not u false Z = refl
under_not u false X = refl

and_one : (u : Bool) → u ≡ (u && true)
and_one true = refl
and_one false = refl

and_zero : (u : Bool) → false ≡ (u && false)
and_zero true = refl
and_zero false = refl

and_self : (u : Bool) → u ≡ (u && u)
and_self true = refl
and_self false = refl

or_one : (u : Bool) → true ≡ (u || true)
or_one true = refl
or_one false = refl

or_zero : (u : Bool) → u ≡ (u || false)
or_zero true = refl
or_zero false = refl

or_self : (u : Bool) → u ≡ (u || u)
or_self true = refl
or_self false = refl

under_and : (u : Bool) (a b : Level) → read_under u true (and3 a b) ≡ (read_under u true a && read_under u true b)
under_and u Zero b = refl
under_and u One Zero = refl
under_and u One One = refl
under_and u One Z = refl
under_and u One X = refl
under_and u Z Zero = and_zero u
under_and u Z One = and_one u
under_and u Z Z = and_self u
under_and u Z X = and_self u
under_and u X Zero = and_zero u
under_and u X One = and_one u
under_and u X Z = and_self u
under_and u X X = and_self u

under_and' : (u : Bool) (a b : Level) → read_under u false (and3 a b) ≡ (read_under u false a || read_under u false b)
under_and' u Zero b = refl
under_and' u One Zero = refl
under_and' u One One = refl
under_and' u One Z = refl
under_and' u One X = refl
under_and' u Z Zero = or_one u
under_and' u Z One = or_zero u
under_and' u Z Z = or_self u
under_and' u Z X = or_self u
under_and' u X Zero = or_one u
under_and' u X One = or_zero u
under_and' u X Z = or_self u
under_and' u X X = or_self u

under_or : (u : Bool) (a b : Level) → read_under u true (or3 a b) ≡ (read_under u true a || read_under u true b)
under_or u One b = refl
under_or u Zero Zero = refl
under_or u Zero One = refl
under_or u Zero Z = refl
under_or u Zero X = refl
under_or u Z Zero = or_zero u
under_or u Z One = or_one u
under_or u Z Z = or_self u
under_or u Z X = or_self u
under_or u X Zero = or_zero u
under_or u X One = or_one u
under_or u X Z = or_self u
under_or u X X = or_self u

under_or' : (u : Bool) (a b : Level) → read_under u false (or3 a b) ≡ (read_under u false a && read_under u false b)
under_or' u One b = refl
under_or' u Zero Zero = refl
under_or' u Zero One = refl
under_or' u Zero Z = refl
under_or' u Zero X = refl
under_or' u Z Zero = and_one u
under_or' u Z One = and_zero u
under_or' u Z Z = and_self u
under_or' u Z X = and_self u
under_or' u X Zero = and_one u
under_or' u X One = and_zero u
under_or' u X Z = and_self u
under_or' u X X = and_self u

-- what is read of levels, with this in place of unknowns
abbrev pub levels_read : Bool → Levelling → Reading
levels_read u l v side = read_under u side (l v)

module _ (u : Bool) (l : Levelling) where
  abbrev r : Reading
  r = levels_read u l

  literal_under : (side : Bool) (x : VarLit) → literal_read r side x ≡ read_under u side (literal_level l x)
  literal_under side x = by side x.high
    where
      by : (side high : Bool) → read_under u (if side then high else not high) (l x.var) ≡ read_under u side (if high then l x.var else not3 (l x.var))
      by true true = refl
      by true false = sym (under_not u true (l x.var))
      by false true = refl
      by false false = sym (under_not u false (l x.var))

  all_under : (xs : List VarLit) → list_all (literal_read r true) xs ≡ read_under u true (product_level l xs)
  all_under [] = refl
  all_under (x ∷ xs) = (λ i. literal_under true x i && all_under xs i) ∙ sym (under_and u (literal_level l x) (product_level l xs))

  any_under : (xs : List VarLit) → list_any (literal_read r false) xs ≡ read_under u false (product_level l xs)
  any_under [] = refl
  any_under (x ∷ xs) = (λ i. literal_under false x i || any_under xs i) ∙ sym (under_and' u (literal_level l x) (product_level l xs))

  product_under : (side : Bool) (t : VarProduct) → product_read r side t ≡ read_under u side (product_level l t.lits)
  product_under true t = all_under t.lits
  product_under false t = any_under t.lits

  terms_under : (side : Bool) (ts : List VarProduct) → terms_read r side ts ≡ read_under u side (terms_level l ts)
  terms_under true [] = refl
  terms_under true (t ∷ ts) = (λ i. product_under true t i || terms_under true ts i) ∙ sym (under_or u (product_level l t.lits) (terms_level l ts))
  terms_under false [] = refl
  terms_under false (t ∷ ts) = (λ i. product_under false t i && terms_under false ts i) ∙ sym (under_or' u (product_level l t.lits) (terms_level l ts))

  pub inverted_under : (side : Bool) (sum : Inverted) → inverted_read r side sum ≡ read_under u side (inverted_level l sum)
  inverted_under side sum = by sum.low
    where
      by : (low : Bool) → terms_read r (if low then not side else side) sum.terms ≡ read_under u side (if low then not3 (terms_level l sum.terms) else terms_level l sum.terms)
      by true = terms_under (not side) sum.terms ∙ sym (under_not u side (terms_level l sum.terms))
      by false = terms_under side sum.terms

not_driven : (a : Level) → not3 a ≢ Z
not_driven Zero = λ e. cc
not_driven One = λ e. cc
not_driven Z = λ e. cc
not_driven X = λ e. cc

terms_driven : (l : Levelling) (ts : List VarProduct) → terms_level l ts ≢ Z
terms_driven l [] = λ e. cc
terms_driven l (t ∷ ts) = or-known (product_level l t.lits) (terms_level l ts)

-- a sum does not float
pub inverted_driven : (l : Levelling) (sum : Inverted) → inverted_level l sum ≢ Z
inverted_driven l sum = by sum.low
  where
    by : (low : Bool) → (if low then not3 (terms_level l sum.terms) else terms_level l sum.terms) ≢ Z
    by true = not_driven (terms_level l sum.terms)
    by false = terms_driven l sum.terms

-- a level is told by what is read with unknowns false and true
pub between_under : (a : Level) → a ≢ Z → level_between (read_under false true a) (read_under true true a) ≡ a
between_under Zero h = refl
between_under One h = refl
between_under Z h = absurd (h refl)
between_under X h = refl

off_under : (u : Bool) (s : Side) (high : Bool) (l : Level) → has_literal s high ≡ true → IsLevel (is_pure s) l → read_off s high (side_under u s l) ≡ read_under u high l
off_under u Pure true Zero c i = refl
off_under u Pure true One c i = refl
off_under u Pure true Z c i = elim i [ inl e ↦ cc | inr e ↦ cc ]
off_under u Pure true X c i = elim i [ inl e ↦ cc | inr e ↦ cc ]
off_under u Pure false Zero c i = refl
off_under u Pure false One c i = refl
off_under u Pure false Z c i = elim i [ inl e ↦ cc | inr e ↦ cc ]
off_under u Pure false X c i = elim i [ inl e ↦ cc | inr e ↦ cc ]
off_under u High true l c i = refl
off_under u High false l c i = cc
off_under u Low true l c i = cc
off_under u Low false l c i = refl

-- a literal at the point of levels
pub holds_under : (vs : List (Var × Bool)) (ls : List Level) → AreLevels vs ls → (u : Bool) (x : VarLit) → IsListed vs x.var
    → literal_holds (all_rails vs) x (point_under u (all_rails vs) ls) ≡ read_under u x.high (level_of vs ls x.var)
holds_under vs ls lawful u x listed =
    let f = found vs x listed in
    let number : f.index ≡ f.rail.variable = omega (arith, f.number) in
    f.reads 0 (point_under u (all_rails vs) ls)
    ∙ ap (λ j. read_off f.rail.side x.high (point_under u (all_rails vs) ls j)) (omega arith)
    ∙ (λ i. read_off f.rail.side x.high (rail_under u ls (f.at i)))
    ∙ off_under u f.rail.side x.high (level_at ls f.rail.variable) f.has (rail_level vs ls lawful f.place f.rail f.at)
    ∙ ap (read_under u x.high) (sym (f.level ls lawful ∙ ap (level_at ls) number))
