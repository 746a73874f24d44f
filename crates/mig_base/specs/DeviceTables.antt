-- What the data sheets say of each kind of chip: names, pins, macrocells, arrays and the columns of their pins.
use Rattle.std.specs.Prelude.{ℕ, ◌*◌, ◌/◌, Bool, true, false, not, ◌||◌, ◌&&◌, List, [], ◌∷◌, filter, if◌then◌else◌, ◌==◌, codes, Option, Some, None}
use Rattle.std.specs.Str.{bytes_eq}
use Rattle.mig_base.specs.declared.kinds.Kind.{Kind}
use Rattle.mig_base.specs.declared.kinds.Kind.TheVariants.{Pal16L8, Pal16R4, Pal16R6, Pal16R8, Pal20L8, Pal20R4, Pal20R6, Pal20R8, Gal16V8, Gal20V8, Gal22V10, Gal22V10Q}
use Rattle.mig_base.specs.declared.kinds.Mode.{Mode}
use Rattle.mig_base.specs.declared.kinds.Mode.TheVariants.{Simple, Complex}
use Rattle.mig_base.specs.First.{made_from}

-- the name of a kind in a board file, as bytes
abbrev pub kind_name : Kind → List ℕ
kind_name Pal16L8 = codes "PAL16L8"
kind_name Pal16R4 = codes "PAL16R4"
kind_name Pal16R6 = codes "PAL16R6"
kind_name Pal16R8 = codes "PAL16R8"
kind_name Pal20L8 = codes "PAL20L8"
kind_name Pal20R4 = codes "PAL20R4"
kind_name Pal20R6 = codes "PAL20R6"
kind_name Pal20R8 = codes "PAL20R8"
kind_name Gal16V8 = codes "GAL16V8"
kind_name Gal20V8 = codes "GAL20V8"
kind_name Gal22V10 = codes "GAL22V10"
kind_name Gal22V10Q = codes "GAL22V10Q"

abbrev pub all_kinds : List Kind
all_kinds = Pal16L8 ∷ Pal16R4 ∷ Pal16R6 ∷ Pal16R8 ∷ Pal20L8 ∷ Pal20R4 ∷ Pal20R6 ∷ Pal20R8 ∷ Gal16V8 ∷ Gal20V8 ∷ Gal22V10 ∷ Gal22V10Q ∷ []

-- the first of these kinds that has the name
abbrev pub kind_among : List Kind → List ℕ → Option Kind
kind_among [] name = None
kind_among (k ∷ ks) name = if bytes_eq name (kind_name k) then Some k else kind_among ks name

-- the kind of this name
abbrev pub kind_named : List ℕ → Option Kind
kind_named name = kind_among all_kinds name

abbrev pub pins_of : Kind → ℕ
pins_of Pal16L8 = 20
pins_of Pal16R4 = 20
pins_of Pal16R6 = 20
pins_of Pal16R8 = 20
pins_of Pal20L8 = 24
pins_of Pal20R4 = 24
pins_of Pal20R6 = 24
pins_of Pal20R8 = 24
pins_of Gal16V8 = 20
pins_of Gal20V8 = 24
pins_of Gal22V10 = 24
pins_of Gal22V10Q = 24

-- ground is the middle pin, power the last
abbrev pub ground_of : Kind → ℕ
ground_of k = pins_of k / 2

-- a pin other than ground and power
abbrev pub is_ordinary : Kind → ℕ → Bool
is_ordinary k p = not (p == ground_of k) && not (p == pins_of k)

-- the pins other than ground and power, rising
abbrev pub ordinary_pins : Kind → List ℕ
ordinary_pins k = filter (is_ordinary k) (made_from (λ p. p) 1 (pins_of k))

abbrev pub is_22 : Kind → Bool
is_22 Gal22V10 = true
is_22 Gal22V10Q = true
is_22 _ = false

abbrev pub is_v8 : Kind → Bool
is_v8 Gal16V8 = true
is_v8 Gal20V8 = true
is_v8 _ = false

abbrev pub is_gal : Kind → Bool
is_gal k = is_v8 k || is_22 k

abbrev pub is_pal : Kind → Bool
is_pal k = not (is_gal k)

abbrev pub is_pal16 : Kind → Bool
is_pal16 k = is_pal k && (pins_of k == 20)

abbrev pub is_pal20 : Kind → Bool
is_pal20 k = is_pal k && (pins_of k == 24)

-- pin 1 clocks every registered cell
abbrev pub clock_pin : Kind → ℕ
clock_pin k = 1

-- the low-active enable pin of registered cells, on every chip but a 22V10
abbrev pub enable_pin : Kind → ℕ
enable_pin k = if pins_of k == 20 then 11 else 13

-- the macrocell pin of the first rows, on every chip but a 22V10: eight rows a cell, pins falling
abbrev pub top_pin : Kind → ℕ
top_pin k = if pins_of k == 20 then 19 else 22

-- the macrocell pins, rising
abbrev pub cell_pins : Kind → List ℕ
cell_pins Gal22V10 = 14 ∷ 15 ∷ 16 ∷ 17 ∷ 18 ∷ 19 ∷ 20 ∷ 21 ∷ 22 ∷ 23 ∷ []
cell_pins Gal22V10Q = 14 ∷ 15 ∷ 16 ∷ 17 ∷ 18 ∷ 19 ∷ 20 ∷ 21 ∷ 22 ∷ 23 ∷ []
cell_pins k = if pins_of k == 20
    then 12 ∷ 13 ∷ 14 ∷ 15 ∷ 16 ∷ 17 ∷ 18 ∷ 19 ∷ []
    else 15 ∷ 16 ∷ 17 ∷ 18 ∷ 19 ∷ 20 ∷ 21 ∷ 22 ∷ []

-- the width of the array: two columns for each pin that it reads
abbrev pub array_width : Kind → ℕ
array_width Gal22V10 = 44
array_width Gal22V10Q = 44
array_width k = if pins_of k == 20 then 32 else 40

-- a fuse count that the kind may have
abbrev pub has_count : Kind → ℕ → Bool
has_count Gal16V8 n = n == 2194
has_count Gal20V8 n = n == 2706
has_count Gal22V10 n = (n == 5828) || (n == 5892)
has_count Gal22V10Q n = (n == 5828) || (n == 5892)
has_count k n = n == 64 * array_width k

-- the pin of each pair of columns, in order
abbrev pub complex_20 : List ℕ
complex_20 = 2 ∷ 1 ∷ 3 ∷ 18 ∷ 4 ∷ 17 ∷ 5 ∷ 16 ∷ 6 ∷ 15 ∷ 7 ∷ 14 ∷ 8 ∷ 13 ∷ 9 ∷ 11 ∷ []

abbrev pub registered_20 : List ℕ
registered_20 = 2 ∷ 19 ∷ 3 ∷ 18 ∷ 4 ∷ 17 ∷ 5 ∷ 16 ∷ 6 ∷ 15 ∷ 7 ∷ 14 ∷ 8 ∷ 13 ∷ 9 ∷ 12 ∷ []

abbrev pub simple_20 : List ℕ
simple_20 = 2 ∷ 1 ∷ 3 ∷ 19 ∷ 4 ∷ 18 ∷ 5 ∷ 17 ∷ 6 ∷ 14 ∷ 7 ∷ 13 ∷ 8 ∷ 12 ∷ 9 ∷ 11 ∷ []

abbrev pub complex_24 : List ℕ
complex_24 = 2 ∷ 1 ∷ 3 ∷ 23 ∷ 4 ∷ 21 ∷ 5 ∷ 20 ∷ 6 ∷ 19 ∷ 7 ∷ 18 ∷ 8 ∷ 17 ∷ 9 ∷ 16 ∷ 10 ∷ 14 ∷ 11 ∷ 13 ∷ []

abbrev pub registered_24 : List ℕ
registered_24 = 2 ∷ 23 ∷ 3 ∷ 22 ∷ 4 ∷ 21 ∷ 5 ∷ 20 ∷ 6 ∷ 19 ∷ 7 ∷ 18 ∷ 8 ∷ 17 ∷ 9 ∷ 16 ∷ 10 ∷ 15 ∷ 11 ∷ 14 ∷ []

abbrev pub simple_24 : List ℕ
simple_24 = 2 ∷ 1 ∷ 3 ∷ 23 ∷ 4 ∷ 22 ∷ 5 ∷ 21 ∷ 6 ∷ 20 ∷ 7 ∷ 17 ∷ 8 ∷ 16 ∷ 9 ∷ 15 ∷ 10 ∷ 14 ∷ 11 ∷ 13 ∷ []

abbrev pub columns_22 : List ℕ
columns_22 = 1 ∷ 23 ∷ 2 ∷ 22 ∷ 3 ∷ 21 ∷ 4 ∷ 20 ∷ 5 ∷ 19 ∷ 6 ∷ 18 ∷ 7 ∷ 17 ∷ 8 ∷ 16 ∷ 9 ∷ 15 ∷ 10 ∷ 14 ∷ 11 ∷ 13 ∷ []

-- the pins of the column pairs of a kind and mode
abbrev pub pair_pins : Kind → Mode → List ℕ
pair_pins Pal16L8 mode = complex_20
pair_pins Pal16R4 mode = registered_20
pair_pins Pal16R6 mode = registered_20
pair_pins Pal16R8 mode = registered_20
pair_pins Pal20L8 mode = complex_24
pair_pins Pal20R4 mode = registered_24
pair_pins Pal20R6 mode = registered_24
pair_pins Pal20R8 mode = registered_24
pair_pins Gal16V8 Simple = simple_20
pair_pins Gal16V8 Complex = complex_20
pair_pins Gal16V8 mode = registered_20
pair_pins Gal20V8 Simple = simple_24
pair_pins Gal20V8 Complex = complex_24
pair_pins Gal20V8 mode = registered_24
pair_pins Gal22V10 mode = columns_22
pair_pins Gal22V10Q mode = columns_22

-- the registered pins of a PAL
abbrev pub pal_registers : Kind → List ℕ
pal_registers Pal16R4 = 14 ∷ 15 ∷ 16 ∷ 17 ∷ []
pal_registers Pal16R6 = 13 ∷ 14 ∷ 15 ∷ 16 ∷ 17 ∷ 18 ∷ []
pal_registers Pal16R8 = 12 ∷ 13 ∷ 14 ∷ 15 ∷ 16 ∷ 17 ∷ 18 ∷ 19 ∷ []
pal_registers Pal20R4 = 17 ∷ 18 ∷ 19 ∷ 20 ∷ []
pal_registers Pal20R6 = 16 ∷ 17 ∷ 18 ∷ 19 ∷ 20 ∷ 21 ∷ []
pal_registers Pal20R8 = 15 ∷ 16 ∷ 17 ∷ 18 ∷ 19 ∷ 20 ∷ 21 ∷ 22 ∷ []
pal_registers _ = []

-- the level of Q that the even column of a registered cell reads
abbrev pub even_reads_q : Kind → Bool
even_reads_q Gal22V10Q = true
even_reads_q _ = false

-- the first row of a 22V10 cell, which is its enable, and the number of its terms
abbrev pub rows_22 : ℕ → ℕ × ℕ
rows_22 pin = if pin == 23 then (1, 8)
    else (if pin == 22 then (10, 10)
    else (if pin == 21 then (21, 12)
    else (if pin == 20 then (34, 14)
    else (if pin == 19 then (49, 16)
    else (if pin == 18 then (66, 16)
    else (if pin == 17 then (83, 14)
    else (if pin == 16 then (98, 12)
    else (if pin == 15 then (111, 10) else (122, 8)))))))))
