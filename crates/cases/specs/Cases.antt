-- The proved cases: records with what must come of each, byte for byte.
use Rattle.std.specs.Prelude.{List, [], ◌∷◌, ◌++◌, ℕ, replicate}
use Rattle.cases.specs.Claims.{ungiven, given, Answer, Refused, Clear, Found, Declined, Logged, Unlogged, Case}

-- A case from its parts.
abbrev pub case : List ℕ → Answer → Case
case bytes answer = record { bytes = bytes; answer = answer }

-- A's count and only rule in model One, which end its record.
abbrev pub one_rules : List ℕ
one_rules = 0x01 ∷ 0x01 ∷ 0x00 ∷ 0x01 ∷ []

-- That rule twice.
abbrev pub one_twice : List ℕ
one_twice = 0x02 ∷ 0x01 ∷ 0x00 ∷ 0x01 ∷ 0x01 ∷ 0x00 ∷ 0x01 ∷ []

-- Seven rules that ascend: from each to the next another of the six numbers rises, though those after it fall.
abbrev pub rising : List ℕ
rising =
    0x07 ∷ 0x02 ∷ 0x00 ∷ 0x0F ∷ 0x06 ∷ 0x00 ∷ 0x00 ∷ 0x00 ∷ 0x06 ∷ 0x00 ∷ 0x00 ∷ 0x0F ∷ 0x06 ∷ 0x00 ∷ 0x01 ∷ 0x00 ∷ 0x01 ∷ 0x00 ∷ 0x01 ∷ 0x00 ∷
    0x01 ∷ 0x01 ∷ 0x10 ∷ 0x00 ∷ []

-- The rules of model Two: A's second and third and B's only one, as they end its record.
abbrev pub two_rest : List ℕ
two_rest = 0x01 ∷ 0x00 ∷ 0x01 ∷ 0x01 ∷ 0x20 ∷ 0x03 ∷ 0x01 ∷ 0x03 ∷ 0x10 ∷ 0x02 ∷ 0x00 ∷ []

-- A's count and its first rule before them.
abbrev pub two_rules : List ℕ
two_rules = 0x03 ∷ 0x06 ∷ 0x00 ∷ 0x00 ∷ 0x00 ∷ two_rest

-- A shortest schedule of model Two.
abbrev pub two_schedule : List ℕ
two_schedule = 0x00 ∷ 0x00 ∷ 0x00 ∷ 0x01 ∷ 0x01 ∷ 0x00 ∷ 0x02 ∷ 0x02 ∷ []

-- The eight bytes of marks, those of the first eight rules given.
abbrev pub marks : ℕ → List ℕ
marks bits = bits ∷ replicate 7 0x00

-- Model Two with marks of A.
abbrev pub held_two : ℕ → List ℕ
held_two bits = 0xC8 ∷ 0x83 ∷ 0x04 ∷ (marks bits ++ two_rules)

-- A model at K=1 with one rule in A and one in B, which always apply and change nothing.
abbrev pub still : List ℕ
still = 0xCA ∷ 0x01 ∷ 0x00 ∷ 0x01 ∷ 0x02 ∷ 0x00 ∷ 0x00 ∷ 0x01 ∷ 0x02 ∷ 0x00 ∷ 0x00 ∷ []

-- The log of that shortest schedule.
abbrev pub two_log : List ℕ
two_log = 0x00 ∷ 0x01 ∷ 0x80 ∷ 0x02 ∷ []

-- A record with three symbols of A and two of B: the tops and the first symbols of both, and of each one rule that pushes, by its symbol
-- before and its two new ones.
abbrev pub counted : ℕ → ℕ → ℕ → ℕ → List ℕ → List ℕ → List ℕ
counted top_a top_b first_a first_b rule_a rule_b =
    0xF8 ∷ 0x80 ∷ 0x33 ∷ top_a ∷ top_b ∷ 0x03 ∷ 0x02 ∷ first_a ∷ first_b ∷ 0x01 ∷ 0x06 ∷ (rule_a ++ (0x01 ∷ 0x06 ∷ rule_b))

-- Three symbols of a rule.
abbrev pub rule : ℕ → ℕ → ℕ → List ℕ
rule before first second = before ∷ first ∷ second ∷ []

-- The table of the proved cases.
unfoldable pub cases : List Case
cases =
    -- model One
    case (0x4B ∷ 0x02 ∷ 0x01 ∷ 0x01 ∷ one_rules) (Found 1 1 1 (0x00 ∷ 0x00 ∷ []) (given (0x27 ∷ []))) ∷
    -- model Two, and at K=1
    case (0xC8 ∷ 0x03 ∷ two_rules) (Found 4 2 1 two_schedule ungiven) ∷
    case (0xCA ∷ 0x01 ∷ 0x03 ∷ two_rules) (Clear (given (0x13 ∷ 0x06 ∷ 0x00 ∷ []))) ∷
    -- Two without A's first rule, at K=1, 2, 3
    case (0xCA ∷ 0x01 ∷ 0x03 ∷ 0x02 ∷ two_rest) (Clear ungiven) ∷
    case (0xC8 ∷ 0x03 ∷ 0x02 ∷ two_rest) (Clear ungiven) ∷
    case (0xCA ∷ 0x03 ∷ 0x03 ∷ 0x02 ∷ two_rest) (Clear ungiven) ∷
    -- the target is the start
    case (0x08 ∷ 0x00 ∷ []) (Found 0 1 1 [] ungiven) ∷
    -- .. with A's top as the start has it, and with another
    case (0x08 ∷ 0x80 ∷ 0x01 ∷ 0x00 ∷ []) (Found 0 1 1 [] ungiven) ∷
    case (0x08 ∷ 0x80 ∷ 0x01 ∷ 0x01 ∷ []) (Clear ungiven) ∷
    -- One with a top of A, whose stack its step empties, and with one of B: the lines stay
    case (0x4B ∷ 0x02 ∷ 0x01 ∷ 0x81 ∷ 0x01 ∷ 0x00 ∷ one_rules) (Clear (given (0x27 ∷ []))) ∷
    case (0x4B ∷ 0x02 ∷ 0x01 ∷ 0x81 ∷ 0x02 ∷ 0x00 ∷ one_rules) (Found 1 1 1 (0x00 ∷ 0x00 ∷ []) (given (0x27 ∷ []))) ∷
    -- Two with the top 0 of A: it takes one more push
    case (0xC8 ∷ 0x83 ∷ 0x01 ∷ 0x00 ∷ two_rules)
    (Found 5 3 1 (0x00 ∷ 0x00 ∷ 0x00 ∷ 0x00 ∷ 0x00 ∷ 0x01 ∷ 0x01 ∷ 0x00 ∷ 0x02 ∷ 0x02 ∷ []) ungiven) ∷
    -- One with its rule held: the target is passed, but no turn may end there
    case (0x4B ∷ 0x02 ∷ 0x01 ∷ 0x81 ∷ 0x04 ∷ (marks 0x01 ++ one_rules)) (Clear (given (0x05 ∷ []))) ∷
    -- Two with A's first rule held, which is never its turn's last, and with its second, which always is
    case (held_two 0x01) (Found 4 2 1 two_schedule ungiven) ∷
    case (held_two 0x02) (Clear ungiven) ∷
    -- schedules that leave a turn after a held step: at their end, for B's turn, for A's next turn, and for a rule that is not there;
    -- a turn number above 2K−1 comes first
    case (held_two 0x02) (Declined (0x00 ∷ 0x00 ∷ 0x00 ∷ 0x01 ∷ []) 12) ∷
    case (held_two 0x02) (Declined two_schedule 12) ∷
    case (held_two 0x01) (Declined (0x00 ∷ 0x00 ∷ 0x02 ∷ 0x00 ∷ []) 12) ∷
    case (held_two 0x02) (Declined (0x00 ∷ 0x01 ∷ 0x01 ∷ 0x09 ∷ []) 12) ∷
    case (held_two 0x02) (Declined (0x00 ∷ 0x01 ∷ 0x04 ∷ 0x09 ∷ []) 9) ∷
    -- rounds of a log by its threads, whatever K is: none, A, B, AB, BA, ABA
    case still (Logged [] 0 0) ∷
    case still (Logged (0x00 ∷ []) 0 1) ∷
    case still (Logged (0x80 ∷ []) 0 1) ∷
    case still (Logged (0x00 ∷ 0x80 ∷ []) 0 1) ∷
    case still (Logged (0x80 ∷ 0x00 ∷ []) 0 2) ∷
    case still (Logged (0x00 ∷ 0x80 ∷ 0x00 ∷ []) 0 2) ∷
    -- Two's log, at K=2 and at K=1; without its second step it is refused
    case (0xC8 ∷ 0x03 ∷ two_rules) (Logged two_log 3 2) ∷
    case (0xCA ∷ 0x01 ∷ 0x03 ∷ two_rules) (Logged two_log 3 2) ∷
    case (0xC8 ∷ 0x03 ∷ two_rules) (Unlogged (0x00 ∷ 0x80 ∷ 0x02 ∷ []) 10) ∷
    -- logs that change the thread after a held step, or end after one; bit 6 comes first, and the rule last
    case (held_two 0x02) (Unlogged (0x00 ∷ 0x01 ∷ []) 12) ∷
    case (held_two 0x02) (Unlogged two_log 12) ∷
    case (held_two 0x02) (Unlogged (0x01 ∷ 0xC0 ∷ []) 18) ∷
    case (held_two 0x02) (Unlogged (0x01 ∷ 0x89 ∷ []) 12) ∷
    case (held_two 0x02) (Unlogged (0x01 ∷ 0x09 ∷ []) 10) ∷
    -- records refused: two that end too early, and one for each other number
    case [] (Refused 1) ∷
    case (0x4B ∷ 0x02 ∷ []) (Refused 1) ∷
    case (0x00 ∷ []) (Refused 2) ∷
    case (0x09 ∷ 0x05 ∷ 0x00 ∷ []) (Refused 3) ∷
    case (0x48 ∷ 0x00 ∷ 0x01 ∷ 0x08 ∷ 0x00 ∷ []) (Refused 4) ∷
    case (0x09 ∷ 0x04 ∷ 0x00 ∷ []) (Refused 5) ∷
    case (0x08 ∷ 0x00 ∷ 0x00 ∷ []) (Refused 6) ∷
    -- a second map that is missing, has an unknown bit or is 0; a top that is missing or no symbol
    case (0x08 ∷ 0x80 ∷ []) (Refused 1) ∷
    case (0x08 ∷ 0x80 ∷ 0x40 ∷ []) (Refused 3) ∷
    case (0x08 ∷ 0x80 ∷ 0x00 ∷ []) (Refused 5) ∷
    case (0x08 ∷ 0x80 ∷ 0x01 ∷ []) (Refused 1) ∷
    case (0x08 ∷ 0x80 ∷ 0x02 ∷ 0x10 ∷ []) (Refused 3) ∷
    -- marks of which a byte is missing, that are all 0, and for a rule that is not there, of A and of B and before a byte too many
    case (0x08 ∷ 0x80 ∷ 0x04 ∷ replicate 7 0x00) (Refused 1) ∷
    case (0x08 ∷ 0x80 ∷ 0x04 ∷ marks 0x00) (Refused 5) ∷
    case (0x48 ∷ 0x80 ∷ 0x04 ∷ (marks 0x02 ++ one_rules)) (Refused 11) ∷
    case (0x48 ∷ 0x80 ∷ 0x08 ∷ (marks 0x01 ++ one_rules)) (Refused 11) ∷
    case (0x08 ∷ 0x80 ∷ 0x04 ∷ (marks 0x01 ++ (0x00 ∷ []))) (Refused 11) ∷
    -- rules that ascend; one that stands twice, of A and of B, and two of Two's exchanged
    case (0x48 ∷ 0x00 ∷ rising) (Found 0 1 1 [] ungiven) ∷
    case (0x48 ∷ 0x00 ∷ one_twice) (Refused 13) ∷
    case (0x88 ∷ 0x00 ∷ one_twice) (Refused 13) ∷
    case (0xC8 ∷ 0x03 ∷ 0x02 ∷ 0x01 ∷ 0x00 ∷ 0x01 ∷ 0x06 ∷ 0x00 ∷ 0x00 ∷ 0x00 ∷ []) (Refused 13) ∷
    -- a rule that is too low has its own faults first: it ends too early, its after state is none, or is the before state
    case (0x48 ∷ 0x00 ∷ 0x02 ∷ 0x01 ∷ 0x10 ∷ 0x00 ∷ 0x01 ∷ 0x00 ∷ []) (Refused 1) ∷
    case (0x48 ∷ 0x00 ∷ 0x02 ∷ 0x01 ∷ 0x10 ∷ 0x00 ∷ 0x01 ∷ 0x00 ∷ 0x05 ∷ []) (Refused 4) ∷
    case (0x48 ∷ 0x00 ∷ 0x02 ∷ 0x01 ∷ 0x10 ∷ 0x00 ∷ 0x01 ∷ 0x00 ∷ 0x00 ∷ []) (Refused 5) ∷
    -- .. and comes before a fault of B's rules, a mark for a rule that is not there, and a byte too many
    case (0xC8 ∷ 0x00 ∷ (one_twice ++ (0x41 ∷ []))) (Refused 13) ∷
    case (0x48 ∷ 0x80 ∷ 0x04 ∷ (marks 0x04 ++ one_twice)) (Refused 13) ∷
    case (0x48 ∷ 0x00 ∷ (one_twice ++ (0x00 ∷ []))) (Refused 13) ∷
    -- a symbol count that is missing, is 0, is above 16, and says what its absence would
    case (0x08 ∷ 0x80 ∷ 0x10 ∷ []) (Refused 1) ∷
    case (0x08 ∷ 0x80 ∷ 0x10 ∷ 0x00 ∷ []) (Refused 3) ∷
    case (0x08 ∷ 0x80 ∷ 0x20 ∷ 0x11 ∷ []) (Refused 3) ∷
    case (0x08 ∷ 0x80 ∷ 0x20 ∷ 0x10 ∷ []) (Refused 5) ∷
    -- every symbol just below its thread's count, ..
    case (counted 2 1 2 1 (rule 2 2 2) (rule 1 1 1)) (Found 0 1 1 [] ungiven) ∷
    -- .. and just at it in each place: the tops, the first symbols, and those of A's rule and of B's
    case (counted 3 1 2 1 (rule 2 2 2) (rule 1 1 1)) (Refused 17) ∷
    case (counted 2 2 2 1 (rule 2 2 2) (rule 1 1 1)) (Refused 17) ∷
    case (counted 2 1 3 1 (rule 2 2 2) (rule 1 1 1)) (Refused 17) ∷
    case (counted 2 1 2 2 (rule 2 2 2) (rule 1 1 1)) (Refused 17) ∷
    case (counted 2 1 2 1 (rule 3 2 2) (rule 1 1 1)) (Refused 17) ∷
    case (counted 2 1 2 1 (rule 2 3 2) (rule 1 1 1)) (Refused 17) ∷
    case (counted 2 1 2 1 (rule 2 2 3) (rule 1 1 1)) (Refused 17) ∷
    case (counted 2 1 2 1 (rule 2 2 2) (rule 2 1 1)) (Refused 17) ∷
    case (counted 2 1 2 1 (rule 2 2 2) (rule 1 2 1)) (Refused 17) ∷
    case (counted 2 1 2 1 (rule 2 2 2) (rule 1 1 2)) (Refused 17) ∷
    -- a mark for a rule that is not there comes before such a symbol, and a byte too many after it
    case (0x48 ∷ 0x80 ∷ 0x14 ∷ (marks 0x02 ++ (0x01 ∷ 0x01 ∷ 0x00 ∷ 0x01 ∷ []))) (Refused 11) ∷
    case (0x48 ∷ 0x80 ∷ 0x10 ∷ 0x01 ∷ 0x01 ∷ 0x00 ∷ 0x01 ∷ 0x00 ∷ []) (Refused 17) ∷
    []
