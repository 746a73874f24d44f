-- Values under the levels of a board are those by its levels as literals read them; what reads the same has the same.
use Rattle.std.proofs.Common.{ℕ, ◌≡◌, cond, List, [], ◌∷◌, ◌++◌, map, Option, Some, None, refl, ap, ◌∙◌}
use Rattle.std.specs.List.{AllByRecursion, slice_get}
use Rattle.mig_base.specs.declared.levels.Level.{Level}
use Rattle.mig_base.specs.declared.circuit.Read.{Read}
use Rattle.mig_base.specs.declared.circuit.Literal.{Literal}
use Rattle.mig_base.specs.declared.circuit.Gate.{Gate}
use Rattle.mig_base.specs.declared.circuit.Gate.TheVariants.{Never, Product}
use Rattle.mig_base.specs.declared.circuit.Gives.{Gives}
use Rattle.mig_base.specs.declared.circuit.Gives.TheVariants.{Sum, Visible}
use Rattle.mig_base.specs.declared.circuit.Driver.{Driver}
use Rattle.mig_base.specs.declared.circuit.Register.{Register}
use Rattle.mig_base.specs.declared.circuit.Circuit.{Circuit}
use Rattle.mig_base.specs.declared.circuit.Levels.{Levels}
use Rattle.mig_base.specs.Levels.{not3, and3, or3, level_at, or_x}
use Rattle.mig_base.specs.Reads.{gives_reads, driver_reads, edge_reads}
use Rattle.mig_base.specs.Values.{source_level, literal_value, product_value, sum_value, row_value, inverted, product_reads, sum_reads, row_reads}
use Rattle.level_laws.specs.Runs.{taken}
use Rattle.level_laws.specs.Settled.{gives_level, gated, drive_level}
use Rattle.level_laws.proofs.Unique.{all_left, all_right, level_at-map}
use Rattle.fitting_levels.specs.NodeValues.{NodeLevels, literal_by, product_by, terms_by, gate_by, gives_by, drive_by, taken_by, drive_at}

-- by the levels of a board

product-by : (l : Levels) (xs : List Literal) → product_value l xs ≡ product_by (source_level l) xs
product-by l [] = refl
product-by l (x ∷ xs) = ap (and3 (literal_value l x)) (product-by l xs)

pub terms-by : (l : Levels) (ts : List (List Literal)) → sum_value l ts ≡ terms_by (source_level l) ts
terms-by l [] = refl
terms-by l (t ∷ ts) = (λ i. or3 (product-by l t i) (terms-by l ts i))

pub gate-by : (l : Levels) (g : Gate) → row_value l g ≡ gate_by (source_level l) g
gate-by l Never = refl
gate-by l (Product xs) = product-by l xs

pub gives-by : (l : Levels) (g : Gives) → gives_level l g ≡ gives_by (source_level l) g
gives-by l (Sum ts) = terms-by l ts
gives-by l (Visible k) = refl

pub drive-by : (l : Levels) (d : Driver) → drive_level l d ≡ drive_by (source_level l) d
drive-by l d = (λ i. gated (gate-by l d.enable i) (inverted d.low (gives-by l d.gives i)))

pub taken-by : (l : Levels) (r : Register) → taken l r ≡ taken_by (source_level l) r
taken-by l r = (λ i. and3 (or3 (inverted r.low (terms-by l r.terms i)) (gate-by l r.preset i)) (not3 (gate-by l r.reset i)))

-- the drive of a unit
pub drive_at-by : (c : Circuit) (l : Levels) (u : ℕ) → l.drives ≡ map (drive_level l) c.units → level_at l.drives u ≡ drive_at c (source_level l) u
drive_at-by c l u e = ap (λ (ds : List Level). level_at ds u) e ∙ level_at-map (drive_level l) c.units u ∙ at (slice_get c.units u)
  where
    at : (o : Option Driver) → or_x (drive_level l) o ≡ or_x (drive_by (source_level l)) o
    at None = refl
    at (Some d) = drive-by l d

-- by levels that agree on what is read

module _ (f g : NodeLevels) where
  abbrev Alike : Read → Type 0
  Alike v = f v ≡ g v

  literal-alike : (x : Literal) → Alike x.source → literal_by f x ≡ literal_by g x
  literal-alike x e = ap (λ (a : Level). cond x.high a (not3 a)) e

  product-alike : (xs : List Literal) → AllByRecursion Alike (product_reads xs) → product_by f xs ≡ product_by g xs
  product-alike [] h = refl
  product-alike (x ∷ xs) h = (λ i. and3 (literal-alike x h.0 i) (product-alike xs h.1 i))

  pub terms-alike : (ts : List (List Literal)) → AllByRecursion Alike (sum_reads ts) → terms_by f ts ≡ terms_by g ts
  terms-alike [] h = refl
  terms-alike (t ∷ ts) h =
      (λ i. or3 (product-alike t (all_left Alike (product_reads t) (sum_reads ts) h) i) (terms-alike ts (all_right Alike (product_reads t) (sum_reads ts) h) i))

  pub gate-alike : (r : Gate) → AllByRecursion Alike (row_reads r) → gate_by f r ≡ gate_by g r
  gate-alike Never h = refl
  gate-alike (Product xs) h = product-alike xs h

  gives-alike : (r : Gives) → AllByRecursion Alike (gives_reads r) → gives_by f r ≡ gives_by g r
  gives-alike (Sum ts) h = terms-alike ts h
  gives-alike (Visible k) h = h.0

  drive-alike : (d : Driver) → AllByRecursion Alike (row_reads d.enable ++ gives_reads d.gives) → drive_by f d ≡ drive_by g d
  drive-alike d h =
      (λ i. gated (gate-alike d.enable (all_left Alike (row_reads d.enable) (gives_reads d.gives) h) i)
      (inverted d.low (gives-alike d.gives (all_right Alike (row_reads d.enable) (gives_reads d.gives) h) i)))

  pub drive_at-alike : (c : Circuit) (u : ℕ) → AllByRecursion Alike (driver_reads (slice_get c.units u)) → drive_at c f u ≡ drive_at c g u
  drive_at-alike c u h = at (slice_get c.units u) h
    where
      at : (o : Option Driver) → AllByRecursion Alike (driver_reads o) → or_x (drive_by f) o ≡ or_x (drive_by g) o
      at None h = refl
      at (Some d) h = drive-alike d h

  pub taken-alike : (r : Register) → AllByRecursion Alike (edge_reads r) → taken_by f r ≡ taken_by g r
  taken-alike r h =
      let front : AllByRecursion Alike (sum_reads r.terms ++ row_reads r.preset) = all_left Alike (sum_reads r.terms ++ row_reads r.preset) (row_reads r.reset) h in
      (λ i. and3 (or3 (inverted r.low (terms-alike r.terms (all_left Alike (sum_reads r.terms) (row_reads r.preset) front) i))
      (gate-alike r.preset (all_right Alike (sum_reads r.terms) (row_reads r.preset) front) i))
      (not3 (gate-alike r.reset (all_right Alike (sum_reads r.terms ++ row_reads r.preset) (row_reads r.reset) h) i)))
