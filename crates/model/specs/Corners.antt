-- Corners of the definitions, by a computed check: a round with four access rules of least count 2, a load of more than 16 bits, 14 at each limit, more doors lent, and
-- more handed, than a plan has room for, a cost of eight bytes, and the words that are printed, as bytes (01, Cost of a round, Working, Numbers a call can answer with, and
-- Layout of a plan).
-- The figures of the round are those of an enumeration made apart from these definitions. Assumes nothing.
use Rattle.std.specs.Prelude.{Bool, ◌&&◌, List, [], ◌∷◌, ◌++◌, ℕ, ◌+◌, ◌*◌, ◌^◌, eqb, set, take}
use Rattle.model.specs.Folds.{same_list}
use Rattle.model.specs.Plans.{round_cost}
use Rattle.model.specs.Answer.{accepted}
use Rattle.model.specs.SheetLayout.{decode}
use Rattle.model.specs.Faults.{read_sheet}
use Rattle.model.specs.PlanLayout.{write_plan, read_plan}
use Rattle.model.specs.PlanInHand.{no_doors, with_doors}
use Rattle.model.specs.Validating.{validate}
use Rattle.model.specs.Planning.{plan}
use Rattle.model.specs.Printing.{ascii, print, printed}
use Rattle.model.specs.Examples.{sheet_a, head_of, like_a, pair_bytes, rule_bytes, ended, byte_noise, plan_a, same_answer, reading_refuses, reading_answers, plan_answers, holds}

-- ---- a round with four rules

-- E 10; w +4, -2, +1; door 0 (task 0, points 1 to 1, work 1), door 1 (task 1, 0 to 1, 2), door 2 (task 2, 1 to 0, 4); starts at points 0, 0, 1; rules of least count 2 (door 0,
-- watched 6, charge 100), (0, 5, 7), (1, 5, 30), (1, 6, 11); end costs 5, 9; distance rows 0 2, 3 0
abbrev four_rules : List ℕ
four_rules =
    head_of 10 3 3 3 0 4 2
    ++ (4 ∷ 0 ∷ 254 ∷ 255 ∷ 1 ∷ 0
    ∷ 0 ∷ 0 ∷ 1 ∷ 0 ∷ 1 ∷ 0 ∷ 1 ∷ 0 ∷ 0 ∷ 0
    ∷ 1 ∷ 0 ∷ 0 ∷ 0 ∷ 1 ∷ 0 ∷ 2 ∷ 0 ∷ 0 ∷ 0
    ∷ 2 ∷ 0 ∷ 1 ∷ 0 ∷ 0 ∷ 0 ∷ 4 ∷ 0 ∷ 0 ∷ 0
    ∷ 0 ∷ 0 ∷ 0 ∷ 0 ∷ 1 ∷ 0
    ∷ [])
    ++ rule_bytes 0 6 2 100 ++ rule_bytes 0 5 2 7 ++ rule_bytes 1 5 2 30 ++ rule_bytes 1 6 2 11
    ++ (5 ∷ 0 ∷ 0 ∷ 0 ∷ 9 ∷ 0 ∷ 0 ∷ 0
    ∷ 0 ∷ 0 ∷ 2 ∷ 0 ∷ 3 ∷ 0 ∷ 0 ∷ 0
    ∷ [])

-- its plan: start 2, doors 2, 1, 0, cost 16
abbrev plan_of_four : List ℕ
plan_of_four =
    2 ∷ 0 ∷ 0 ∷ 0 ∷ 1 ∷ 0 ∷ 22 ∷ 0 ∷ 1 ∷ 0 ∷ 2 ∷ 0
    ∷ 24 ∷ 0 ∷ 3 ∷ 0 ∷ 3 ∷ 0 ∷ 30 ∷ 0 ∷ 1 ∷ 0 ∷ 2 ∷ 0
    ∷ 2 ∷ 0 ∷ 1 ∷ 0 ∷ 0 ∷ 0 ∷ 16 ∷ 0 ∷ 0 ∷ 0 ∷ 0 ∷ 0 ∷ 0 ∷ 0 ∷ []

-- what stands in its 16 cells then, with the noise beyond, and what is printed for it
abbrev cells_of_four : List ℕ
cells_of_four = 5 ∷ 9 ∷ 38 ∷ 10 ∷ 11 ∷ 35 ∷ 12 ∷ 36 ∷ 31 ∷ 9 ∷ 47 ∷ 17 ∷ 22 ∷ 15 ∷ 42 ∷ 16 ∷ 217 ∷ 218 ∷ []

abbrev lines_of_four : List ℕ
lines_of_four = ascii "cost 16\nstart 2\ndoor 2 task 2 open 7\ndoor 1 task 1 open 3\ndoor 0 task 0 open 1\n"

-- ---- A with two rules, and with one that watches 258, which is 2 in its first byte

abbrev two_rules : List ℕ → List ℕ
two_rules second = like_a 10 0 [] 2 (rule_bytes 0 2 1 50 ++ second)

abbrev watches258 : List ℕ
watches258 = like_a 10 0 [] 1 (0 ∷ 0 ∷ 2 ∷ 1 ∷ 1 ∷ 0 ∷ 50 ∷ 0 ∷ 0 ∷ 0 ∷ [])

-- ---- a plan like that of A, with a cost of eight bytes

abbrev wide_cost : ℕ
wide_cost = 2 ^ 56 + 2 * 2 ^ 48 + 3 * 2 ^ 40 + 4 * 2 ^ 32 + 5 * 2 ^ 24 + 6 * 2 ^ 16 + 7 * 2 ^ 8 + 8

abbrev wide_plan : List ℕ
wide_plan = take 28 plan_a ++ (8 ∷ 7 ∷ 6 ∷ 5 ∷ 4 ∷ 3 ∷ 2 ∷ 1 ∷ [])

-- ---- the check

unfoldable pub check_corners : Bool
check_corners =
    -- the round with four rules, planned, judged and printed; printing leaves the same cells
    same_answer (plan four_rules (take 18 byte_noise) byte_noise).answer (accepted 16)
    && same_list (plan four_rules (take 18 byte_noise) byte_noise).cells cells_of_four
    && same_list (plan four_rules (take 18 byte_noise) byte_noise).bytes (plan_of_four ++ (239 ∷ []))
    && same_answer (validate four_rules plan_of_four) (accepted 16)
    && same_list (printed four_rules) lines_of_four
    && same_list (print four_rules (take 18 byte_noise) []).cells cells_of_four
    -- A with E 65,535: the load is 65,537 at first
    && eqb (round_cost (decode (ended 65535)) 0 (0 ∷ 1 ∷ [])) 393242
    -- 14: point 3 to arrive and to depart; the pairs (2, 0) and (0, 2); a rule on door 2; of two rules, which read, the second on door 2, and watching 4; watched 258
    && reading_refuses (read_sheet (set sheet_a 52 3)) 14
    && reading_refuses (read_sheet (set sheet_a 54 3)) 14
    && reading_refuses (read_sheet (like_a 10 1 (pair_bytes 2 0) 0 [])) 14
    && reading_refuses (read_sheet (like_a 10 1 (pair_bytes 0 2) 0 [])) 14
    && reading_refuses (read_sheet (like_a 10 0 [] 1 (rule_bytes 2 2 1 50))) 14
    && reading_answers (read_sheet (two_rules (rule_bytes 1 1 2 50))) 2 3
    && reading_refuses (read_sheet (two_rules (rule_bytes 2 1 2 50))) 14
    && reading_refuses (read_sheet (two_rules (rule_bytes 1 4 2 50))) 14
    && reading_refuses (read_sheet watches258) 14
    -- the plan of A read with fourteen doors lent
    && plan_answers (read_plan 2 14 plan_a) 0 (0 ∷ 1 ∷ 0 ∷ 0 ∷ 0 ∷ 0 ∷ 0 ∷ 0 ∷ 0 ∷ 0 ∷ 0 ∷ 0 ∷ 0 ∷ 0 ∷ []) 92
    -- a plan in hand of cost 7 that is handed fourteen doors
    && holds (with_doors (no_doors 7) (take 14 byte_noise)) (take 12 byte_noise) 12 7
    -- a cost of eight bytes written and read
    && same_list (write_plan 2 0 (0 ∷ 1 ∷ []) wide_cost (take 36 byte_noise)).bytes wide_plan
    && plan_answers (read_plan 2 2 wide_plan) 0 (0 ∷ 1 ∷ []) wide_cost
    -- the words that are printed
    && same_list (ascii "refused ") (114 ∷ 101 ∷ 102 ∷ 117 ∷ 115 ∷ 101 ∷ 100 ∷ 32 ∷ [])
    && same_list (ascii "cost ") (99 ∷ 111 ∷ 115 ∷ 116 ∷ 32 ∷ [])
    && same_list (ascii "start ") (115 ∷ 116 ∷ 97 ∷ 114 ∷ 116 ∷ 32 ∷ [])
    && same_list (ascii "door ") (100 ∷ 111 ∷ 111 ∷ 114 ∷ 32 ∷ [])
    && same_list (ascii " task ") (32 ∷ 116 ∷ 97 ∷ 115 ∷ 107 ∷ 32 ∷ [])
    && same_list (ascii " open ") (32 ∷ 111 ∷ 112 ∷ 101 ∷ 110 ∷ 32 ∷ [])
