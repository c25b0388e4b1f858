-- Older records, and what is asked of their bytes. Uncounted ones are from before symbol counts: a second map has bits 0 to 3 alone, and
-- each thread has 16 symbols. Older ones yet are from before second maps and before rules had an order: the target byte is its state alone,
-- no top is named, no rule is held, and rules stand in any order, any number of times.
use Rattle.std.specs.Prelude.{Bool, List, [], ◌∷◌, ◌⊎◌, ◌≡◌, ℕ, zero, suc, ◌+◌, ◌<◌, get_or}
use Rattle.model.specs.declared.Model.{Model}
use Rattle.model.specs.declared.Rule.{Rule}
use Rattle.std.specs.Prelude.{None}
use Rattle.model.specs.Bits.{bit, one_if}
use Rattle.model.specs.Results.{accepted, unless}
use Rattle.model.specs.Valid.{marks_fault}
use Rattle.writer.specs.Writer.{Extra, Second, second_of}
use Rattle.model.specs.Zero.{no_marks}
use Rattle.record.specs.Reader.{Read, and_read, parse_ranged, parse_field, parse_top, parse_marks, parse_rule, parse_rules}
use Rattle.record.specs.Reader.{Head, parse_firsts, head_rest_by, head_by, model_by}

-- The fields of a second map without counts: tops and marks.
unfoldable pub uncounted_extras : ℕ → List ℕ → Read Second
uncounted_extras map bs =
    and_read (parse_top (bit 0 map) bs) (λ top_a rest.
    and_read (parse_top (bit 1 map) rest) (λ top_b rest.
    and_read (parse_marks (bit 2 map) rest) (λ held_a rest.
    and_read (parse_marks (bit 3 map) rest) (λ held_b rest.
    accepted (
      record {
        a = record { top = top_a; held = held_a; symbols = 16 };
        b = record { top = top_b; held = held_b; symbols = 16 };
      },
      rest,
    )))))

-- That map, of bits 0 to 3 alone (3) and not 0 (5), and its fields.
unfoldable pub uncounted_second : Bool → List ℕ → Read Second
uncounted_second present bs = and_read (parse_field present 3 0 16 0 bs) (λ map rest. uncounted_extras map rest)

-- Marks stand on rules of the lists alone (11), and that is all that is asked after the rules.
abbrev pub marks_listed : Model → List ℕ → Read Model
marks_listed m bs = unless (marks_fault m) (accepted (m, bs))

-- The record at the front of a list, as readers without counts read it.
unfoldable pub uncounted_front : List ℕ → Read Model
uncounted_front bs = and_read (head_by (head_rest_by uncounted_second) bs) (model_by parse_rules marks_listed)

-- The place of a record's target byte: after the map and those of G, K and the start state that the map names.
unfoldable pub target_place : List ℕ → ℕ
target_place bs = let map = get_or bs 0 0 in 1 + (one_if (bit 0 map) + (one_if (bit 1 map) + one_if (bit 2 map)))

-- The target byte.
abbrev pub target_byte : List ℕ → ℕ
target_byte bs = get_or bs (target_place bs) 0

-- The byte after it, which is the second map where the target byte announces one.
abbrev pub second_byte : List ℕ → ℕ
second_byte bs = get_or bs (target_place bs + 1) 0

-- No symbol count is written: there is no second map, or it has none of the bits from 4 on.
abbrev pub Uncounted : List ℕ → Type 0
Uncounted bs = (target_byte bs < 128) ⊎ (second_byte bs < 16)

-- What no second map says of a thread: any top, no mark, and 16 symbols ..
abbrev pub no_extra : Extra
no_extra = record { top = None; held = no_marks; symbols = 16 }

-- .. and of both.
abbrev pub no_second : Second
no_second = record { a = no_extra; b = no_extra }

-- The older rest of a head: the two states and the first symbols.
abbrev pub older_head_rest : ℕ → ℕ → ℕ → List ℕ → Read Head
older_head_rest map g k bs =
    and_read (parse_field (bit 2 map) 3 0 g 0 bs) (λ start rest.
    and_read (parse_ranged 3 0 g rest) (λ target rest. parse_firsts map g k start target no_second rest))

-- So many rules, one after another, as older readers read them: nothing is asked of a rule beyond its own checks.
unfoldable pub older_rule_list : ℕ → ℕ → List ℕ → Read (List Rule)
older_rule_list g zero bs = accepted ([], bs)
older_rule_list g (suc n) bs =
    and_read (parse_rule g bs) (λ r rest. and_read (older_rule_list g n rest) (λ rs rest. accepted (r ∷ rs, rest)))

-- The rules of a thread: their count, and so many.
unfoldable pub older_rules : Bool → ℕ → List ℕ → Read (List Rule)
older_rules present g bs = and_read (parse_field present 4 0 65 0 bs) (λ n rest. older_rule_list g n rest)

-- The record at the front of a list, as older readers read it: nothing is asked of the model after its rules.
unfoldable pub older_front : List ℕ → Read Model
older_front bs = and_read (head_by older_head_rest bs) (model_by older_rules (λ m rest. accepted (m, rest)))

-- No top is named, no rule is held, and no count is below 16: a second map would say nothing.
abbrev pub NoSecond : Model → Type 0
NoSecond m = second_of m ≡ no_second
