-- Readers added node by node.
use Rattle.std.proofs.Common.{ℕ, zero, suc, ◌≡◌, ◌⊎◌, ◌<◌, ◌+◌, List, [], ◌∷◌, ◌++◌, length, replicate, refl, sym, ap, ◌∙◌, subst, arith, inl, inr}
use Rattle.std.specs.Prelude.{slice_get, slice_index_or}
use Rattle.std.proofs.lemmas.List.{length-replicate}
use Rattle.mig_base.specs.declared.circuit.Read.{Read}
use Rattle.mig_base.specs.declared.circuit.Read.TheVariants.{OfNet, OfRegister}
use Rattle.mig_base.specs.declared.circuit.Circuit.{Circuit}
use Rattle.mig_base.specs.Among.{Among}
use Rattle.mig_base.specs.Reads.{IsNode, driver_reads, node_reads}
use Rattle.mig_base.proofs.Amongs.{among-split}
use Rattle.ranks.specs.Order.{IsOrder}
use Rattle.reader_lists.specs.declared.lists.Reader.{Reader}
use Rattle.reader_lists.specs.declared.lists.Reader.TheVariants.{ByUnit}
use Rattle.reader_lists.specs.declared.readers.Readers.{Readers}
use Rattle.reader_lists.specs.Lists.{reader_of, readers_at, no_readers, Adds, IsListed, IsPut, Keeps}
use Rattle.reader_lists.specs.Tables.{AddsNode, AddsNodes, AddsUnits, AreReaders}

pub keeps-same : (t : Readers) → Keeps t t
keeps-same t = record { nets = refl; registers = refl; all = λ v r a. a }

pub keeps-both : (old mid new : Readers) → Keeps old mid → Keeps mid new → Keeps old new
keeps-both old mid new p q = record { nets = q.nets ∙ p.nets; registers = q.registers ∙ p.registers; all = λ v r a. q.all v r (p.all v r a) }

pub listed-kept : (old new : Readers) (v : Read) → Keeps old new → IsListed old v → IsListed new v
listed-kept old new (OfNet n) k h = omega (arith, k.nets)
listed-kept old new (OfRegister n) k h = omega (arith, k.registers)

pub adds-none : (t : Readers) (r : Reader) → Adds t r [] t
adds-none t r = record { keeps = keeps-same t; put = λ v listed a. absurd a }

pub adds-then : (old mid new : Readers) (r : Reader) (xs ys : List Read) → Adds old r xs mid → Adds mid r ys new → Adds old r (xs ++ ys) new
adds-then old mid new r xs ys p q = record { keeps = keeps-both old mid new p.keeps q.keeps; put = λ v listed a. put v listed (among-split v xs ys a) }
  where
    put : (v : Read) → IsListed old v → Among v xs ⊎ Among v ys → Among r (readers_at new v)
    put v listed (inl a) = q.keeps.all v r (p.put v listed a)
    put v listed (inr a) = q.put v (listed-kept old mid v p.keeps listed) a

pub added-net : (old : Readers) (n : ℕ) (r : Reader) (nets : List (List Reader)) → IsPut old.nets n r nets →
    Adds old r (OfNet n ∷ []) (record { nets = nets; registers = old.registers })
added-net old n r nets put = record { keeps = record { nets = put.long; registers = refl; all = keeps }; put = puts }
  where
    keeps : (v : Read) (q : Reader) → Among q (readers_at old v) → Among q (readers_at (record { nets = nets; registers = old.registers }) v)
    keeps (OfNet m) q a = put.keeps m q a
    keeps (OfRegister k) q a = a

    puts : (v : Read) → IsListed old v → Among v (OfNet n ∷ []) → Among r (readers_at (record { nets = nets; registers = old.registers }) v)
    puts v listed (inl e) = subst (λ (w : Read). Among r (readers_at (record { nets = nets; registers = old.registers }) w)) (sym e) (put.put (subst (IsListed old) e listed))
    puts v listed (inr a) = absurd a

pub added-register : (old : Readers) (k : ℕ) (r : Reader) (registers : List (List Reader)) → IsPut old.registers k r registers →
    Adds old r (OfRegister k ∷ []) (record { nets = old.nets; registers = registers })
added-register old k r registers put = record { keeps = record { nets = refl; registers = put.long; all = keeps }; put = puts }
  where
    keeps : (v : Read) (q : Reader) → Among q (readers_at old v) → Among q (readers_at (record { nets = old.nets; registers = registers }) v)
    keeps (OfNet m) q a = a
    keeps (OfRegister j) q a = put.keeps j q a

    puts : (v : Read) → IsListed old v → Among v (OfRegister k ∷ []) → Among r (readers_at (record { nets = old.nets; registers = registers }) v)
    puts v listed (inl e) = subst (λ (w : Read). Among r (readers_at (record { nets = old.nets; registers = registers }) w)) (sym e) (put.put (subst (IsListed old) e listed))
    puts v listed (inr a) = absurd a

pub nodes-none : (c : Circuit) (t : Readers) → AddsNodes c t [] t
nodes-none c t = record { keeps = keeps-same t; put = λ w v a listed b. absurd a }

pub nodes-more : (c : Circuit) (old mid new : Readers) (nodes : List Read) (w : Read) → AddsNodes c old nodes mid → AddsNode c mid w new → AddsNodes c old (nodes ++ w ∷ []) new
nodes-more c old mid new nodes w p q = record { keeps = keeps-both old mid new p.keeps q.keeps; put = λ u v a listed b. put u v (among-split u nodes (w ∷ []) a) listed b }
  where
    put : (u v : Read) → Among u nodes ⊎ Among u (w ∷ []) → IsListed old v → Among v (node_reads c u) → Among (reader_of u) (readers_at new v)
    put u v (inl a) listed b = q.keeps.all v (reader_of u) (p.put u v a listed b)
    put u v (inr (inl e)) listed b = subst (λ (x : Read). Among (reader_of x) (readers_at new v)) (sym e)
        (q.put v (listed-kept old mid v p.keeps listed) (subst (λ (x : Read). Among v (node_reads c x)) e b))
    put u v (inr (inr a)) listed b = absurd a

pub units-none : (c : Circuit) (t : Readers) → AddsUnits c t 0 t
units-none c t = record { keeps = keeps-same t; put = λ u v lt listed b. absurd (omega arith) }

split-last : (u n : ℕ) → u < n + 1 → (u < n) ⊎ (u ≡ n)
split-last zero zero h = inr refl
split-last zero (suc n) h = inl (omega arith)
split-last (suc u) zero h = absurd (omega arith)
split-last (suc u) (suc n) h = up (split-last u n (omega arith))
  where
    up : (u < n) ⊎ (u ≡ n) → (suc u < suc n) ⊎ (suc u ≡ suc n)
    up (inl a) = inl (omega arith)
    up (inr e) = inr (ap suc e)

pub units-more : (c : Circuit) (old mid new : Readers) (n : ℕ) → AddsUnits c old n mid → Adds mid (ByUnit n) (driver_reads (slice_get c.units n)) new → AddsUnits c old (n + 1) new
units-more c old mid new n p q = record { keeps = keeps-both old mid new p.keeps q.keeps; put = λ u v lt listed b. put u v (split-last u n lt) listed b }
  where
    put : (u : ℕ) (v : Read) → (u < n) ⊎ (u ≡ n) → IsListed old v → Among v (driver_reads (slice_get c.units u)) → Among (ByUnit u) (readers_at new v)
    put u v (inl lt) listed b = q.keeps.all v (ByUnit u) (p.put u v lt listed b)
    put u v (inr e) listed b = subst (λ (x : ℕ). Among (ByUnit x) (readers_at new v)) (sym e)
        (q.put v (listed-kept old mid v p.keeps listed) (subst (λ (x : ℕ). Among v (driver_reads (slice_get c.units x))) e b))

listed-node : (c : Circuit) (v : Read) → IsNode c v → IsListed (no_readers c) v
listed-node c (OfNet n) h = let long = length-replicate (length c.nets) (let nothing : List Reader = [] in nothing) in omega arith
listed-node c (OfRegister k) h = let long = length-replicate (length c.registers) (let nothing : List Reader = [] in nothing) in omega arith

none-past : (c : Circuit) (u : ℕ) (v : Read) → Among v (driver_reads (slice_get c.units u)) → u < length c.units
none-past c u v a = go c.units u a
  where
    go : (ds : List _) (i : ℕ) → Among v (driver_reads (slice_get ds i)) → i < length ds
    go [] i a = absurd a
    go (d ∷ ds) zero a = omega arith
    go (d ∷ ds) (suc i) a = let rest : i < length ds = go ds i a in omega arith

-- with every node of an order and every unit put in, the table is whole
pub all-readers : (c : Circuit) (order : List Read) (start mid new : Readers) → IsOrder c order → start ≡ no_readers c → AddsNodes c start order mid → AddsUnits c mid (length c.units) new → AreReaders c new
all-readers c order start mid new is empty p q = record {
  nodes = λ w v node here b. q.keeps.all v (reader_of w) (p.put w v (is.every w node) (listed v here) b);
  units = λ u v here b. q.put u v (none-past c u v b) (listed-kept start mid v p.keeps (listed v here)) b;
}
  where
    listed : (v : Read) → IsNode c v → IsListed start v
    listed v here = subst (λ (t : Readers). IsListed t v) (sym empty) (listed-node c v here)
