-- On a board of given cells the variable of each literal is one of the board's.
use Rattle.std.proofs.Common.{ℕ, ◌≡◌, Bool, List, [], ◌∷◌, ◌++◌, Option, Some, None, refl, sym, subst}
use Rattle.std.specs.List.{AllByRecursion, slice_get}
use Rattle.mig_base.specs.declared.plans.Part.{Part}
use Rattle.mig_base.specs.declared.plans.Part.TheVariants.{Logic, Enable, Reset, Preset}
use Rattle.mig_base.specs.declared.circuit.Read.{Read}
use Rattle.mig_base.specs.declared.circuit.Read.TheVariants.{OfNet, OfRegister}
use Rattle.mig_base.specs.declared.circuit.Literal.{Literal}
use Rattle.mig_base.specs.declared.circuit.Gate.{Gate}
use Rattle.mig_base.specs.declared.circuit.Gate.TheVariants.{Never, Product}
use Rattle.mig_base.specs.declared.circuit.Gives.{Gives}
use Rattle.mig_base.specs.declared.circuit.Gives.TheVariants.{Sum, Visible}
use Rattle.mig_base.specs.declared.circuit.Driver.{Driver}
use Rattle.mig_base.specs.declared.circuit.Register.{Register}
use Rattle.mig_base.specs.declared.circuit.Circuit.{Circuit}
use Rattle.mig_base.specs.Among.{Among}
use Rattle.mig_base.specs.Given.{IsGiven}
use Rattle.mig_base.specs.Reads.{IsNode, driver_reads, gives_reads}
use Rattle.mig_base.specs.Structure.{alias_of, all_variables, variable_literal}
use Rattle.mig_base.specs.Values.{product_reads, row_reads, sum_reads}
use Rattle.mig_base.proofs.Aliases.{alias-is}
use Rattle.mig_base.proofs.Amongs.{among-all, among-flat_map, map-among, node-among}
use Rattle.mig_base.proofs.ListLaws.{all-append}
use Rattle.board.specs.Joined.{Joined, equations_of}
use Rattle.level_laws.proofs.Unique.{all_left, all_right}
use Rattle.read_nodes.specs.ReadsNodes.{ReadsNodes}
use Rattle.read_nodes.proofs.GivenNodes.{given-nodes}
use Rattle.carried_boards.specs.Carries.{variable_at}
use Rattle.placed_boards.specs.Rows.{gate_terms}
use Rattle.placed_boards.proofs.Naming.{variable-none, variable-some}
use Rattle.placed_boards.proofs.RowParts.{variable-source}
use Rattle.joined_rows.specs.PartRows.{register_terms, reset_terms, preset_terms, raw_part, logic_terms, resetting_terms, presetting_terms, HasOwnLiterals}

module _ (c : Circuit) (reads : ReadsNodes c) where
  abbrev AreNodes : List Read → Type 0
  AreNodes vs = AllByRecursion (IsNode c) vs

  -- the variable of a node is a node
  variable-node : (v : Read) → IsNode c v → IsNode c (variable_at c v)
  variable-node (OfRegister k) h = h
  variable-node (OfNet n) h = at (alias_of c n) refl
    where
      at : (o : Option (ℕ × Bool)) → alias_of c n ≡ o → IsNode c (variable_at c (OfNet n))
      at None is = subst (IsNode c) (sym (variable-none c n is)) h
      at (Some x) is =
          let i = alias-is c n x is in
          let all : AreNodes (row_reads i.driver.enable ++ gives_reads i.driver.gives) = subst (λ (o : Option Driver). AreNodes (driver_reads o)) i.unit_is (reads.units i.unit) in
          let seen : AreNodes (gives_reads i.driver.gives) = all_right (IsNode c) (row_reads i.driver.enable) (gives_reads i.driver.gives) all in
          let one : AreNodes (OfRegister x.0 ∷ []) = subst (λ (g : Gives). AreNodes (gives_reads g)) i.alias.gives seen in
          subst (IsNode c) (sym (variable-some c n x is)) one.0

  gate-nodes : (g : Gate) → AreNodes (row_reads g) → AreNodes (sum_reads (gate_terms g))
  gate-nodes Never h = tt
  gate-nodes (Product xs) h = all-append (IsNode c) (product_reads xs) [] h tt

  -- what a register reads
  terms-nodes : (k : ℕ) (o : Option Register) → slice_get c.registers k ≡ o → AreNodes (sum_reads (register_terms o))
  terms-nodes k None e = tt
  terms-nodes k (Some r) e =
      all_left (IsNode c) (sum_reads r.terms) (row_reads r.preset) (all_left (IsNode c) (sum_reads r.terms ++ row_reads r.preset) (row_reads r.reset) (reads.registers k r e))

  preset-nodes : (k : ℕ) (o : Option Register) → slice_get c.registers k ≡ o → AreNodes (sum_reads (preset_terms o))
  preset-nodes k None e = tt
  preset-nodes k (Some r) e =
      gate-nodes r.preset
      (all_right (IsNode c) (sum_reads r.terms) (row_reads r.preset) (all_left (IsNode c) (sum_reads r.terms ++ row_reads r.preset) (row_reads r.reset) (reads.registers k r e)))

  reset-nodes : (k : ℕ) (o : Option Register) → slice_get c.registers k ≡ o → AreNodes (sum_reads (reset_terms o))
  reset-nodes k None e = tt
  reset-nodes k (Some r) e = gate-nodes r.reset (all_right (IsNode c) (sum_reads r.terms ++ row_reads r.preset) (row_reads r.reset) (reads.registers k r e))

  logic-nodes : (g : Gives) → AreNodes (gives_reads g) → AreNodes (sum_reads (logic_terms c g))
  logic-nodes (Sum ts) h = h
  logic-nodes (Visible k) h = terms-nodes k (slice_get c.registers k) refl

  resetting-nodes : (g : Gives) → AreNodes (sum_reads (resetting_terms c g))
  resetting-nodes (Sum ts) = tt
  resetting-nodes (Visible k) = reset-nodes k (slice_get c.registers k) refl

  presetting-nodes : (g : Gives) → AreNodes (sum_reads (presetting_terms c g))
  presetting-nodes (Sum ts) = tt
  presetting-nodes (Visible k) = preset-nodes k (slice_get c.registers k) refl

  -- all that a part reads are nodes
  part-nodes : (d : Driver) (part : Part) → AreNodes (row_reads d.enable ++ gives_reads d.gives) → AreNodes (sum_reads (raw_part c d part))
  part-nodes d Logic h = logic-nodes d.gives (all_right (IsNode c) (row_reads d.enable) (gives_reads d.gives) h)
  part-nodes d Enable h = gate-nodes d.enable (all_left (IsNode c) (row_reads d.enable) (gives_reads d.gives) h)
  part-nodes d Reset h = resetting-nodes d.gives
  part-nodes d Preset h = presetting-nodes d.gives

-- all literals of a board of given cells
pub given-own : (b : Joined) → IsGiven b.net b.chips → HasOwnLiterals b
given-own b given = record { each = λ u d part e. record { each = λ t x at ax. own u d part t x e at ax } }
  where
    reads : ReadsNodes (equations_of b)
    reads = given-nodes b.net b.chips given

    own : (u : ℕ) (d : Driver) (part : Part) (t : List Literal) (x : Literal) → slice_get (equations_of b).units u ≡ Some d → Among t (raw_part (equations_of b) d part) → Among x t →
        Among (variable_literal (equations_of b) x).source (all_variables (equations_of b))
    own u d part t x e at ax =
        let all : AllByRecursion (IsNode (equations_of b)) (row_reads d.enable ++ gives_reads d.gives) = subst (λ (o : Option Driver). AllByRecursion (IsNode (equations_of b)) (driver_reads o)) e (reads.units u) in
        let read : Among x.source (sum_reads (raw_part (equations_of b) d part)) =
        among-flat_map product_reads t x.source (raw_part (equations_of b) d part) at (map-among (λ (y : Literal). y.source) x t ax) in
        let node : IsNode (equations_of b) x.source =
        among-all (IsNode (equations_of b)) x.source (sum_reads (raw_part (equations_of b) d part)) (part-nodes (equations_of b) reads d part all) read in
        subst (λ (v : Read). Among v (all_variables (equations_of b))) (sym (variable-source (equations_of b) x.source x.high))
        (node-among (equations_of b) (variable_at (equations_of b) x.source) (variable-node (equations_of b) reads x.source node))
