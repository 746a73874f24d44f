-- New terms and new enable rows stand for the old ones.
use Rattle.std.proofs.Common.{ℕ, ◌≡◌, ◌≢◌, false, append-nil, List, [], ◌∷◌, map, Some, refl, ◌∙◌, subst, inl, inr}
use Rattle.std.specs.List.{AllByRecursion, slice_get}
use Rattle.mig_base.specs.declared.levels.Level.{Level}
use Rattle.mig_base.specs.declared.levels.Level.TheVariants.{Zero, One, Z, X}
use Rattle.mig_base.specs.declared.circuit.Read.{Read}
use Rattle.mig_base.specs.declared.circuit.Literal.{Literal}
use Rattle.mig_base.specs.declared.circuit.Gate.{Gate}
use Rattle.mig_base.specs.declared.circuit.Gate.TheVariants.{Never, Product}
use Rattle.mig_base.specs.declared.circuit.Circuit.{Circuit}
use Rattle.mig_base.specs.Among.{Among}
use Rattle.mig_base.specs.Boards.{enable_on}
use Rattle.mig_base.specs.Levels.{or3}
use Rattle.mig_base.specs.Reads.{IsNode}
use Rattle.mig_base.specs.Values.{product_reads, row_reads, sum_reads}
use Rattle.level_laws.proofs.Unique.{all_left, all_right}
use Rattle.board.specs.Joined.{Joined, equations_of}
use Rattle.new_board.specs.NewChip.{NewChip, gate_products}
use Rattle.new_board.specs.NewFiles.{new_enable}
use Rattle.new_board.proofs.Columns.{IsReadable, RegistersFit}
use Rattle.plans.specs.Placings.{old}
use Rattle.plans.specs.Fitting.{new_board}
use Rattle.fitting_levels.specs.NodeValues.{NodeLevels, gate_by, literal_by, product_by, terms_by}
use Rattle.fitting_levels.proofs.Fitting.{and-known}
use Rattle.placed_boards.specs.Places.{Named}
use Rattle.placed_boards.specs.Rows.{AreRows, AreSeenAs, IsGateSeenAs, gate_terms}
use Rattle.new_circuits.specs.NewNumbers.{new_literals, new_units, new_wiring, numbers_of}
use Rattle.new_circuits.proofs.SeenRows.{product-seen}

or-level : (g : Gate) (f : NodeLevels) → gate_by f g ≡ terms_by f (gate_terms g)
or-level Never f = refl
or-level (Product xs) f = one (product_by f xs) (known xs)
  where
    one : (x : Level) → x ≢ Z → x ≡ or3 x Zero
    one Zero h = refl
    one One h = refl
    one Z h = absurd (h refl)
    one X h = refl

    known : (ys : List Literal) → product_by f ys ≢ Z
    known [] = λ e. cc
    known (y ∷ ys) = and-known (literal_by f y) (product_by f ys)

-- the rows of a part are those of its row
pub gate-rows : (c : Circuit) (absorbed : List ℕ) (g : Gate) (rows : List (List Literal)) → AreRows c absorbed (λ f. terms_by f (gate_terms g)) (sum_reads (gate_terms g)) rows false →
    AreRows c absorbed (λ f. gate_by f g) (row_reads g) rows false
gate-rows c absorbed g rows r = record { same = λ f fit. or-level g f ∙ r.same f fit; named = λ v a. at g (r.named v a) }
  where
    at : {v : Read} (h : Gate) → Named c absorbed v (sum_reads (gate_terms h)) → Named c absorbed v (row_reads h)
    at Never n = n
    at {v} (Product xs) n = subst (Named c absorbed v) (append-nil (product_reads xs)) n

module _ (b : Joined) (chips : List NewChip) (j : ℕ) (chip : NewChip) (found : slice_get chips j ≡ Some chip) (fit : RegistersFit (old b) chip) where
  abbrev a : Circuit
  a = equations_of b

  abbrev AreNodes : List Read → Type 0
  AreNodes vs = AllByRecursion (IsNode (equations_of (new_board b chips))) vs

  pub terms-seen : (ts : List (List Literal)) → ((t : List Literal) → Among t ts → IsReadable (old b) chip t) → AreNodes (sum_reads (map (new_literals b chips j chip) ts)) →
      AreSeenAs a (numbers_of b chips) (map (new_literals b chips j chip) ts) ts
  terms-seen [] readable nodes = tt
  terms-seen (t ∷ ts) readable nodes =
      let news = map (new_literals b chips j chip) ts in (
        product-seen b chips j chip found t fit (readable t (inl refl)) (all_left (IsNode (equations_of (new_board b chips))) (product_reads (new_literals b chips j chip t)) (sum_reads news) nodes),
        terms-seen ts (λ s m. readable s (inr m)) (all_right (IsNode (equations_of (new_board b chips))) (product_reads (new_literals b chips j chip t)) (sum_reads news) nodes),
      )

  -- an enable row
  pub enable-seen : (g : Gate) → ((t : List Literal) → Among t (gate_products g) → IsReadable (old b) chip t) → AreNodes (row_reads (enable_on (new_wiring b chips) (new_units b chips) j (new_enable (old b) chip g))) →
      IsGateSeenAs a (numbers_of b chips) (enable_on (new_wiring b chips) (new_units b chips) j (new_enable (old b) chip g)) (gate_products g)
  enable-seen Never readable nodes = tt
  enable-seen (Product []) readable nodes = record { only = λ x m. absurd m; every = λ y m. absurd m }
  enable-seen (Product (x ∷ xs)) readable nodes = product-seen b chips j chip found (x ∷ xs) fit (readable (x ∷ xs) (inl refl)) nodes
