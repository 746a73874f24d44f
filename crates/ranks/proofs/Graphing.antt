-- The nodes of a board, and lists of what they read and by which they are read.
use Rattle.std.proofs.Common.{ℕ, zero, suc, ◌≡◌, ◌⊎◌, ◌+◌, List, [], ◌∷◌, ◌++◌, map, length, replicate, Option, Some, None, refl, sym, ap, ◌∙◌, subst, arith, inl, inr}
use Rattle.std.specs.Prelude.{slice_get}
use Rattle.std.proofs.Math.ListN.{get_or}
use Rattle.std.proofs.lemmas.List.{length-replicate, append_assoc}
use Rattle.mig_base.specs.declared.circuit.Read.{Read}
use Rattle.mig_base.specs.declared.circuit.Read.TheVariants.{OfNet, OfRegister}
use Rattle.mig_base.specs.declared.circuit.Register.{Register}
use Rattle.mig_base.specs.declared.circuit.Wire.{Wire}
use Rattle.mig_base.specs.declared.circuit.Circuit.{Circuit}
use Rattle.mig_base.specs.First.{made_from}
use Rattle.mig_base.specs.Among.{Among}
use Rattle.mig_base.specs.Reads.{node_reads, wire_reads, reads_of_wire, reads_of_register}
use Rattle.mig_base.specs.Values.{row_reads}
use Rattle.ranks.specs.declared.neighbours.Neighbours.{Neighbours}
use Rattle.ranks.specs.Neighbours.{neighbours_at, IsListed, IsAdded}
use Rattle.ranks.specs.Graphs.{AllRead, ReadBy, AddsReader}
use Rattle.mig_base.specs.Reads.{IsNode}
use Rattle.mig_base.proofs.Amongs.{among-left, among-right, among-split}

pub made-more : {T : Type 0} (f : ℕ → T) (first n : ℕ) → made_from f first n ++ f (first + n) ∷ [] ≡ made_from f first (suc n)
made-more {T = T} f first zero = ap (λ (k : ℕ). f k ∷ []) (omega arith)
made-more {T = T} f first (suc n) =
    let far : first + suc n ≡ first + 1 + n = omega arith in
    ap (λ (rest : List T). f first ∷ rest) (ap (λ (k : ℕ). made_from f (first + 1) n ++ f k ∷ []) far ∙ made-more f (first + 1) n)

abbrev pub or_nil : {T : Type 0} → (T → List Read) → Option T → List Read
or_nil f None = []
or_nil f (Some x) = f x

list-at : {T : Type 0} (f : T → List Read) (xs : List T) (n : ℕ) → get_or (map f xs) n [] ≡ or_nil f (slice_get xs n)
list-at f [] n = refl
list-at f (x ∷ xs) zero = refl
list-at f (x ∷ xs) (suc n) = list-at f xs n

-- lists of what nets and registers read are what each node reads
pub all-read : (c : Circuit) (nets registers : List (List Read)) → nets ≡ map (wire_reads c) c.nets → registers ≡ map (λ (register : Register). row_reads register.reset) c.registers →
    AllRead c (record { nets = nets; registers = registers })
all-read c nets registers en er = record { is = is }
  where
    wire : (o : Option Wire) → or_nil (wire_reads c) o ≡ reads_of_wire c o
    wire None = refl
    wire (Some w) = refl

    register : (o : Option Register) → or_nil (λ (register : Register). row_reads register.reset) o ≡ reads_of_register o
    register None = refl
    register (Some r) = refl

    is : (v : Read) → neighbours_at (record { nets = nets; registers = registers }) v ≡ node_reads c v
    is (OfNet n) = ap (λ (lists : List (List Read)). get_or lists n []) en ∙ list-at (wire_reads c) c.nets n ∙ wire (slice_get c.nets n)
    is (OfRegister k) =
        ap (λ (lists : List (List Read)). get_or lists k []) er ∙ list-at (λ (register : Register). row_reads register.reset) c.registers k ∙ register (slice_get c.registers k)

none-at : (n i : ℕ) → get_or (replicate n (let nothing : List Read = [] in nothing)) i [] ≡ []
none-at zero i = refl
none-at (suc n) zero = refl
none-at (suc n) (suc i) = none-at n i

-- empty lists, where no node reads so far
pub none-read : (c : Circuit) (nets registers : List (List Read)) → nets ≡ replicate (length c.nets) [] → registers ≡ replicate (length c.registers) [] →
    ReadBy c [] (record { nets = nets; registers = registers })
none-read c nets registers en er = record {
  nets = ap length en ∙ length-replicate (length c.nets) [];
  registers = ap length er ∙ length-replicate (length c.registers) [];
  sound = sound;
  every = λ w v node a reads. absurd a;
}
  where
    sound : (w v : Read) → Among v (neighbours_at (record { nets = nets; registers = registers }) w) → Among w (node_reads c v)
    sound (OfNet n) v a = absurd (subst (Among v) (ap (λ (lists : List (List Read)). get_or lists n []) en ∙ none-at (length c.nets) n) a)
    sound (OfRegister k) v a = absurd (subst (Among v) (ap (λ (lists : List (List Read)). get_or lists k []) er ∙ none-at (length c.registers) k) a)

pub adds-none : (old : Neighbours) (node : Read) → AddsReader old node [] old
adds-none old node = record { nets = refl; registers = refl; keeps = λ w v a. a; sound = λ w v a. inl a; put = λ w listed a. absurd a }

listed-same : (old new : Neighbours) (w : Read) → length new.nets ≡ length old.nets → length new.registers ≡ length old.registers → IsListed old w → IsListed new w
listed-same old new (OfNet n) en er h = omega (arith, en)
listed-same old new (OfRegister k) en er h = omega (arith, er)

-- one more list with the node
pub adds-more : (old mid new : Neighbours) (node w : Read) (reads : List Read) → AddsReader old node reads mid → IsAdded mid w node new → AddsReader old node (reads ++ w ∷ []) new
adds-more old mid new node w reads so added = record {
  nets = added.nets ∙ so.nets;
  registers = added.registers ∙ so.registers;
  keeps = λ u v a. added.keeps u v (so.keeps u v a);
  sound = λ u v a. sound u v (added.sound u v a);
  put = λ u listed a. put u listed (among-split u reads (w ∷ []) a);
}
  where
    wide : (u v : Read) → Among v (neighbours_at old u) ⊎ ((v ≡ node) × Among u reads) → Among v (neighbours_at old u) ⊎ ((v ≡ node) × Among u (reads ++ w ∷ []))
    wide u v (inl a) = inl a
    wide u v (inr h) = inr (h.0, among-left u reads (w ∷ []) h.1)

    sound : (u v : Read) → Among v (neighbours_at mid u) ⊎ ((u ≡ w) × (v ≡ node)) → Among v (neighbours_at old u) ⊎ ((v ≡ node) × Among u (reads ++ w ∷ []))
    sound u v (inl a) = wide u v (so.sound u v a)
    sound u v (inr h) = inr (h.1, among-right u reads (w ∷ []) (inl h.0))

    put : (u : Read) → IsListed old u → Among u reads ⊎ Among u (w ∷ []) → Among node (neighbours_at new u)
    put u listed (inl a) = added.keeps u node (so.put u listed a)
    put u listed (inr (inl e)) = subst (λ (x : Read). Among node (neighbours_at new x)) (sym e)
        (added.put (listed-same old mid w so.nets so.registers (subst (IsListed old) e listed)))
    put u listed (inr (inr a)) = absurd a

node-listed : (c : Circuit) (nodes : List Read) (ns : Neighbours) → ReadBy c nodes ns → (w : Read) → IsNode c w → IsListed ns w
node-listed c nodes ns by (OfNet n) h = omega (arith, by.nets)
node-listed c nodes ns by (OfRegister k) h = omega (arith, by.registers)

-- one more node whose reads are listed
pub reads-more : (c : Circuit) (nodes : List Read) (old new : Neighbours) (node : Read) (reads : List Read) → reads ≡ node_reads c node → ReadBy c nodes old → AddsReader old node reads new →
    ReadBy c (nodes ++ node ∷ []) new
reads-more c nodes old new node reads e by adds = record {
  nets = adds.nets ∙ by.nets;
  registers = adds.registers ∙ by.registers;
  sound = λ w v a. sound w v (adds.sound w v a);
  every = λ w v is a b. every w v is (among-split v nodes (node ∷ []) a) b;
}
  where
    sound : (w v : Read) → Among v (neighbours_at old w) ⊎ ((v ≡ node) × Among w reads) → Among w (node_reads c v)
    sound w v (inl a) = by.sound w v a
    sound w v (inr h) = subst (λ (u : Read). Among w (node_reads c u)) (sym h.0) (subst (Among w) e h.1)

    every : (w v : Read) → IsNode c w → Among v nodes ⊎ Among v (node ∷ []) → Among w (node_reads c v) → Among v (neighbours_at new w)
    every w v is (inl a) b = adds.keeps w v (by.every w v is a b)
    every w v is (inr (inl same)) b = subst (λ (u : Read). Among u (neighbours_at new w)) (sym same)
        (adds.put w (node-listed c nodes old by w is) (subst (Among w) (sym e) (subst (λ (u : Read). Among w (node_reads c u)) same b)))
    every w v is (inr (inr a)) b = absurd a

-- the next node pushed behind those made so far
pub pushed-next : (f : ℕ → Read) (n : ℕ) (start old new : List Read) → old ≡ start ++ made_from f 0 n → new ≡ old ++ f n ∷ [] → new ≡ start ++ made_from f 0 (n + 1)
pushed-next f n start old new before pushed =
    let here : n ≡ 0 + n = omega arith in
    let next : suc n ≡ n + 1 = omega arith in
    pushed ∙ ap (λ (vs : List Read). vs ++ f n ∷ []) before ∙ append_assoc start (made_from f 0 n) (f n ∷ [])
    ∙ ap (λ (vs : List Read). start ++ vs) (ap (λ (k : ℕ). made_from f 0 n ++ f k ∷ []) here ∙ made-more f 0 n ∙ ap (made_from f 0) next)
