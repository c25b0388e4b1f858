-- The model record as it is read: from left to right, and the first fault gives the refusal.
use Rattle.std.specs.Prelude.{Bool, true, false, not, ◌&&◌, ◌||◌, cond, List, [], ◌∷◌, ◌≡◌, ℕ, zero, suc, ◌-◌, ◌/◌, ◌%◌, ◌≤◌, ◌<◌, leb, ltb, eqb, length, take, drop}
use Rattle.model.specs.declared.Model.{Model}
use Rattle.model.specs.declared.Right.{Right}
use Rattle.model.specs.declared.Right.TheVariants.{Remove, Swap, Push}
use Rattle.model.specs.declared.Rule.{Rule}
use Rattle.model.specs.declared.Thread.{Thread}
use Rattle.model.specs.Tops.{Top}
use Rattle.std.specs.Prelude.{None, Some}
use Rattle.model.specs.Bits.{bit, all_zero}
use Rattle.model.specs.Order.{key_of}
use Rattle.model.specs.Results.{Result, refused, accepted, and_then, need, unless}
use Rattle.model.specs.Rules.{zero_rule}
use Rattle.model.specs.Valid.{cross_fault}
use Rattle.model.specs.Zero.{no_marks, in_places}
use Rattle.writer.specs.Writer.{Extra, Second}

-- Reading at the front of a list of bytes comes to a value and the bytes left.
abbrev pub Read : Type 0 → Type 0
Read A = Result (A × List ℕ)

-- What is read after a part that was not refused.
abbrev pub and_read : {A B : Type 0} → Read A → (A → List ℕ → Read B) → Read B
and_read r next = and_then r (λ x. next x.0 x.1)

-- A number is at least `low` and below `limit`.
abbrev pub in_range : ℕ → ℕ → ℕ → Bool
in_range low limit b = leb low b && ltb b limit

-- One byte; 1 where the record ends before it.
unfoldable pub parse_byte : List ℕ → Read ℕ
parse_byte [] = refused 1
parse_byte (b ∷ rest) = accepted (b, rest)

-- A byte in range, or refusal n.
unfoldable pub parse_ranged : ℕ → ℕ → ℕ → List ℕ → Read ℕ
parse_ranged n low limit bs = and_read (parse_byte bs) (λ b rest. need n (in_range low limit b) (accepted (b, rest)))

-- A field with a bit in the map: absent, it has its default; else a byte in range that does not say what absence would (5).
unfoldable pub parse_field : Bool → ℕ → ℕ → ℕ → ℕ → List ℕ → Read ℕ
parse_field false n low limit default bs = accepted (default, bs)
parse_field true n low limit default bs =
    and_read (parse_ranged n low limit bs) (λ b rest. need 5 (not (eqb b default)) (accepted (b, rest)))

-- A rule's map has bits 0 to 2 alone, and bit 2 only beside bit 1.
abbrev pub rule_map : ℕ → Bool
rule_map map = ltb map 8 && (bit 1 map || not (bit 2 map))

-- A new symbol of a rule.
abbrev pub parse_symbol : List ℕ → Read ℕ
parse_symbol bs = parse_ranged 4 0 16 bs

-- The new symbols of a rule, by whether there is a first and a second.
unfoldable pub parse_right : Bool → Bool → List ℕ → Read Right
parse_right false second bs = accepted (Remove, bs)
parse_right true false bs = and_read (parse_symbol bs) (λ a rest. accepted (Swap (record { 0 = a }), rest))
parse_right true true bs =
    and_read (parse_symbol bs) (λ a rest.
    and_read (parse_symbol rest) (λ b rest. accepted (Push (record { 0 = a }) (record { 0 = b }), rest)))

-- A rule: its map; its before state and symbol in the halves of one byte; the after state, by default the before state;
-- the new symbols.
unfoldable pub parse_rule : ℕ → List ℕ → Read Rule
parse_rule g bs =
    and_read (parse_byte bs) (λ map rest.
    need 4 (rule_map map)
    (and_read (parse_byte rest) (λ pair rest.
    need 4 (ltb (pair / 16) g)
    (and_read (parse_field (bit 0 map) 4 0 g (pair / 16) rest) (λ next rest.
    and_read (parse_right (bit 1 map) (bit 2 map) rest) (λ new rest.
    accepted (
      record {
        before = record { 0 = pair / 16 };
        symbol = record { 0 = pair % 16 };
        after = record { 0 = next };
        right = new;
      },
      rest,
    )))))))

-- So many rules, one after another: the key of each is at least `least`, one above the key of the rule before it, so they ascend (13).
unfoldable pub parse_rule_list : ℕ → ℕ → ℕ → List ℕ → Read (List Rule)
parse_rule_list g least zero bs = accepted ([], bs)
parse_rule_list g least (suc n) bs =
    and_read (parse_rule g bs) (λ r rest.
    need 13 (leb least (key_of r))
    (and_read (parse_rule_list g (suc (key_of r)) n rest) (λ rs rest. accepted (r ∷ rs, rest))))

-- The rules of a thread: a count of at most 64 (4) that is not 0 (5), and then the rules, which ascend; none where the bit is absent.
unfoldable pub parse_rules : Bool → ℕ → List ℕ → Read (List Rule)
parse_rules present g bs = and_read (parse_field present 4 0 65 0 bs) (λ n rest. parse_rule_list g 0 n rest)

-- Bit 7 of a target byte, which announces a second map: it stands from 128 on.
abbrev pub announces : ℕ → Bool
announces b = leb 128 b

-- The state of a target byte: its low seven bits.
abbrev pub state_of : ℕ → ℕ
state_of b = cond (announces b) (b - 128) b

-- A target byte, whose state is below G (3).
unfoldable pub parse_target : ℕ → List ℕ → Read ℕ
parse_target g bs = and_read (parse_byte bs) (λ b rest. need 3 (ltb (state_of b) g) (accepted (b, rest)))

-- The top that a thread is asked for: a symbol (3) where its bit stands, else any.
unfoldable pub parse_top : Bool → List ℕ → Read Top
parse_top false bs = accepted (None, bs)
parse_top true bs = and_read (parse_ranged 3 0 16 bs) (λ x rest. accepted (Some (record { 0 = x }), rest))

-- The marks of a thread's held rules: where their bit stands eight bytes (1), not all of them zero (5), else none.
unfoldable pub parse_marks : Bool → List ℕ → Read (List ℕ)
parse_marks false bs = accepted (no_marks, bs)
parse_marks true bs =
    need 1 (leb 8 (length bs)) (need 5 (not (all_zero (take 8 bs))) (accepted (take 8 bs, drop 8 bs)))

-- A thread's symbol count: 1 to 16 (3) but not 16 (5) where its bit stands, else 16.
abbrev pub parse_count : Bool → List ℕ → Read ℕ
parse_count present bs = parse_field present 3 1 17 16 bs

-- The fields that a second map names, in bit order: the tops of A and of B, their marks, and their symbol counts.
unfoldable pub parse_extras : ℕ → List ℕ → Read Second
parse_extras map bs =
    and_read (parse_top (bit 0 map) bs) (λ top_a rest.
    and_read (parse_top (bit 1 map) rest) (λ top_b rest.
    and_read (parse_marks (bit 2 map) rest) (λ held_a rest.
    and_read (parse_marks (bit 3 map) rest) (λ held_b rest.
    and_read (parse_count (bit 4 map) rest) (λ symbols_a rest.
    and_read (parse_count (bit 5 map) rest) (λ symbols_b rest.
    accepted (
      record {
        a = record { top = top_a; held = held_a; symbols = symbols_a };
        b = record { top = top_b; held = held_b; symbols = symbols_b };
      },
      rest,
    )))))))

-- The second map, of bits 0 to 5 alone (3) and not 0 (5), and then its fields. Where it is absent, no field.
unfoldable pub parse_second : Bool → List ℕ → Read Second
parse_second present bs = and_read (parse_field present 3 0 64 0 bs) (λ map rest. parse_extras map rest)

-- The head fields, and the map, whose last two bits stand for the rule lists.
pub record Head : Type 0 where
  pub map : ℕ
  pub g : ℕ
  pub k : ℕ
  pub start : ℕ
  pub target : ℕ
  pub second : Second
  pub a : ℕ
  pub b : ℕ

-- The first symbols, after the fields of the head before them.
abbrev pub parse_firsts : ℕ → ℕ → ℕ → ℕ → ℕ → Second → List ℕ → Read Head
parse_firsts map g k start target second bs =
    and_read (parse_field (bit 4 map) 3 0 16 0 bs) (λ a rest.
    and_read (parse_field (bit 5 map) 3 0 16 0 rest) (λ b rest.
    accepted (record { map = map; g = g; k = k; start = start; target = target; second = second; a = a; b = b }, rest)))

-- The head after its map, G and K: the two states, what a second map says, as it is read, and the first symbols.
abbrev pub head_rest_by : (Bool → List ℕ → Read Second) → ℕ → ℕ → ℕ → List ℕ → Read Head
head_rest_by read_second map g k bs =
    and_read (parse_field (bit 2 map) 3 0 g 0 bs) (λ start rest.
    and_read (parse_target g rest) (λ target rest.
    and_read (read_second (announces target) rest) (λ second rest.
    parse_firsts map g k start (state_of target) second rest)))

-- The same with a second map as it is read now.
abbrev pub parse_head_rest : ℕ → ℕ → ℕ → List ℕ → Read Head
parse_head_rest = head_rest_by parse_second

-- The map, whose bit 3 stands (2), G and K, and then the rest of the head, as it is read.
abbrev pub head_by : (ℕ → ℕ → ℕ → List ℕ → Read Head) → List ℕ → Read Head
head_by read_rest bs =
    and_read (parse_byte bs) (λ map rest.
    need 2 (bit 3 map)
    (and_read (parse_field (bit 0 map) 3 1 5 4 rest) (λ g rest.
    and_read (parse_field (bit 1 map) 3 1 4 2 rest) (λ k rest. read_rest map g k rest))))

-- The head: the map and the head fields in bit order.
unfoldable pub parse_head : List ℕ → Read Head
parse_head bs = head_by parse_head_rest bs

-- A thread with a first symbol, what a second map says of it, and these rules; the unused places are zero.
abbrev pub thread_from : ℕ → Extra → List Rule → Thread
thread_from first x rs =
    record {
      symbols = x.symbols;
      first = record { 0 = first };
      top = x.top;
      held = x.held;
      count = length rs;
      rules = in_places zero_rule rs;
    }

-- The model of a head and two lists of rules.
abbrev pub model_of : Head → List Rule → List Rule → Model
model_of h ra rb =
    record {
      g = h.g;
      k = h.k;
      start = record { 0 = h.start };
      target = record { 0 = h.target };
      a = thread_from h.a h.second.a ra;
      b = thread_from h.b h.second.b rb;
    }

-- The model of a head that was read, and of A's rules and B's after it, as they are read; and then what is asked of it.
abbrev pub model_by : (Bool → ℕ → List ℕ → Read (List Rule)) → (Model → List ℕ → Read Model) → Head → List ℕ → Read Model
model_by read_rules next h bs =
    and_read (read_rules (bit 6 h.map) h.g bs) (λ ra rest.
    and_read (read_rules (bit 7 h.map) h.g rest) (λ rb rest. next (model_of h ra rb) rest))

-- Marks stand on rules of the lists alone (11), and symbols are below the counts (17).
abbrev pub cross_checked : Model → List ℕ → Read Model
cross_checked m bs = unless (cross_fault m) (accepted (m, bs))

-- The record at the front of a list: the head, then A's rules and B's, and then what the parts ask of each other.
unfoldable pub parse_front : List ℕ → Read Model
parse_front bs = and_read (parse_head bs) (model_by parse_rules cross_checked)

-- Nothing is left after the last field (6).
abbrev pub ended : Model → List ℕ → Read Model
ended m [] = accepted (m, [])
ended m (b ∷ rest) = refused 6

-- A whole record.
unfoldable pub read_of : List ℕ → Read Model
read_of bs = and_read (parse_front bs) ended

-- The numbers that refuse: those from 1 to `last`, 11, 13 and 17.
abbrev pub Refuses : ℕ → ℕ → Type 0
Refuses last n = (1 ≤ n) × (n ≤ 17) × (last < n → 11 ≤ n) × (11 < n → 13 ≤ n) × (13 < n → n ≡ 17)
