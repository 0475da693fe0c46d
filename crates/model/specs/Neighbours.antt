-- Further neighbours of sheet A, by a computed check on the definitions: two numbers at once, for every two that a call tests one after the other; the limits of the
-- table, on both sides; numbers of two bytes; and what is allowed although it looks odd (01, Layout of a task sheet and Numbers a call can answer with). Assumes nothing.
use Rattle.std.specs.Prelude.{Bool, not, ◌&&◌, List, [], ◌∷◌, ◌++◌, ℕ, ◌-◌, eqb, length, get_or, set, take, drop}
use Rattle.model.specs.Folds.{flat_map_below, map_below, same_list}
use Rattle.model.specs.Answer.{refused, accepted}
use Rattle.model.specs.SheetLayout.{decode}
use Rattle.model.specs.Faults.{read_sheet}
use Rattle.model.specs.PlanLayout.{write_plan, read_plan}
use Rattle.model.specs.Validating.{validate}
use Rattle.model.specs.Planning.{plan}
use Rattle.model.specs.Examples.{sheet_a, head_of, like_a, pair_bytes, rule_bytes, paired, ringed, aboard, sheet_b, cell_noise, byte_noise, plan_a, plan_like_a, same_answer, reading_refuses, reading_answers, plan_refuses}
use Rattle.model.specs.Method.{mask_bits, with_in, lists_of, full_of, meets, senders_of}

-- ---- sheets

-- A with the number n in byte i
abbrev changed : ℕ → ℕ → List ℕ
changed i n = set sheet_a i n

-- A with P points and D distances, D as two bytes
abbrev pointed : ℕ → ℕ → ℕ → List ℕ
pointed P low high = set (set (changed 38 P) 44 low) 45 high

-- A with a rule on door 0
abbrev ruled : ℕ → ℕ → List ℕ
ruled watched least_count = like_a 10 0 [] 1 (rule_bytes 0 watched least_count 50)

-- the shortest sheet: one task, door, start and point
abbrev shortest : List ℕ
shortest =
    head_of 0 1 1 1 0 0 1
    ++ (0 ∷ 0
    ∷ 0 ∷ 0 ∷ 0 ∷ 0 ∷ 0 ∷ 0 ∷ 0 ∷ 0 ∷ 0 ∷ 0
    ∷ 0 ∷ 0
    ∷ 0 ∷ 0 ∷ 0 ∷ 0
    ∷ 0 ∷ 0
    ∷ [])

-- one task with 21 doors of work 30, 29, .. 10, one start and one point with end cost 7: bodies 3 to 7 lie behind byte 255, at 258, 260, 260, 260 and 264
abbrev many_doors : List ℕ
many_doors =
    head_of 0 1 21 1 0 0 1
    ++ (0 ∷ 0 ∷ [])
    ++ flat_map_below 21 (λ d. 0 ∷ 0 ∷ 0 ∷ 0 ∷ 0 ∷ 0 ∷ (30 - d) ∷ 0 ∷ 0 ∷ 0 ∷ [])
    ++ (0 ∷ 0
    ∷ 7 ∷ 0 ∷ 0 ∷ 0
    ∷ 0 ∷ 0
    ∷ [])

-- three tasks with a door each, of work 1, 2 and 4, one start, two points with end costs 5 and 9 that are 0 apart, and the pair (0, 1); a plan for it, of cost 12
abbrev three_tasks : List ℕ
three_tasks =
    head_of 10 3 3 1 1 0 2
    ++ (0 ∷ 0 ∷ 0 ∷ 0 ∷ 0 ∷ 0
    ∷ 0 ∷ 0 ∷ 0 ∷ 0 ∷ 0 ∷ 0 ∷ 1 ∷ 0 ∷ 0 ∷ 0
    ∷ 1 ∷ 0 ∷ 0 ∷ 0 ∷ 0 ∷ 0 ∷ 2 ∷ 0 ∷ 0 ∷ 0
    ∷ 2 ∷ 0 ∷ 0 ∷ 0 ∷ 0 ∷ 0 ∷ 4 ∷ 0 ∷ 0 ∷ 0
    ∷ 0 ∷ 0
    ∷ 0 ∷ 0 ∷ 1 ∷ 0
    ∷ 5 ∷ 0 ∷ 0 ∷ 0 ∷ 9 ∷ 0 ∷ 0 ∷ 0
    ∷ 0 ∷ 0 ∷ 0 ∷ 0 ∷ 0 ∷ 0 ∷ 0 ∷ 0
    ∷ [])

abbrev three_doors : ℕ → ℕ → ℕ → List ℕ
three_doors d₁ d₂ d₃ =
    2 ∷ 0 ∷ 0 ∷ 0 ∷ 1 ∷ 0 ∷ 22 ∷ 0 ∷ 1 ∷ 0 ∷ 2 ∷ 0
    ∷ 24 ∷ 0 ∷ 3 ∷ 0 ∷ 3 ∷ 0 ∷ 30 ∷ 0 ∷ 1 ∷ 0 ∷ 0 ∷ 0
    ∷ d₁ ∷ 0 ∷ d₂ ∷ 0 ∷ d₃ ∷ 0 ∷ 12 ∷ 0 ∷ 0 ∷ 0 ∷ 0 ∷ 0 ∷ 0 ∷ 0 ∷ []

-- ---- the checks

-- the code's masks have 32 bits; the number of lists and the full list of 0 to 12 tasks, of 13 and 31, and of 32, where a mask has no room for the number;
-- lists that meet below a width; what a task waits for
unfoldable pub check_method : Bool
check_method =
    eqb (with_in mask_bits 5 31) 2147483653
    && eqb (with_in mask_bits 5 32) 5
    && same_list (map_below 13 lists_of) (1 ∷ 2 ∷ 4 ∷ 8 ∷ 16 ∷ 32 ∷ 64 ∷ 128 ∷ 256 ∷ 512 ∷ 1024 ∷ 2048 ∷ 4096 ∷ [])
    && same_list (map_below 13 full_of) (0 ∷ 1 ∷ 3 ∷ 7 ∷ 15 ∷ 31 ∷ 63 ∷ 127 ∷ 255 ∷ 511 ∷ 1023 ∷ 2047 ∷ 4095 ∷ [])
    && eqb (lists_of 13) 8192
    && eqb (lists_of 31) 2147483648
    && eqb (lists_of 32) 0
    && eqb (full_of 13) 8191
    && eqb (full_of 31) 2147483647
    && eqb (full_of 32) 0
    && meets 3 5 4
    && not (meets 3 5 2)
    && not (meets 2 5 4)
    && eqb (senders_of (decode ringed) 0) 2
    && eqb (senders_of (decode ringed) 1) 1
    && eqb (senders_of (decode sheet_a) 0) 0

unfoldable pub check_neighbours : Bool
check_neighbours =
    -- two numbers apply, and the first in the order tested is the answer: 10 and 11, .. 14 and 15, 15 and 17, 17 and 16, 15 and 16
    reading_refuses (read_sheet (take 45 (changed 0 2))) 10
    && reading_refuses (read_sheet (set (changed 0 2) 8 13)) 11
    && reading_refuses (read_sheet (set (changed 8 13) 4 2)) 12
    && reading_refuses (read_sheet (set (changed 4 2) 60 2)) 13
    && reading_refuses (read_sheet (set (changed 60 0) 70 3)) 14
    && reading_refuses (read_sheet (set ringed 60 0)) 15
    && reading_refuses (read_sheet (aboard 1 (pair_bytes 0 0))) 17
    && reading_refuses (read_sheet (set (changed 60 0) 2 2)) 15
    -- 16 and 20 (20 and 21 at once are in `check_further`); 16 and 30; 17 and 20; 17 and 30
    && same_answer (plan (aboard 0 []) (take 11 cell_noise) byte_noise).answer (refused 16)
    && same_answer (validate (aboard 0 []) (take 35 plan_a)) (refused 16)
    && same_answer (plan ringed (take 11 cell_noise) byte_noise).answer (refused 17)
    && same_answer (validate ringed (take 35 plan_a)) (refused 17)
    -- 30 and 31; 31 and 32, with start 1 and doors 0, 0; 32 and 33, driven 1, 0, 0, where 1, 0, 2 gets 33; 33 and 34
    && same_answer (validate sheet_a (take 35 (plan_like_a 0 2 92))) (refused 30)
    && same_answer (validate sheet_a (set (plan_like_a 0 0 92) 22 1)) (refused 31)
    && same_answer (validate three_tasks (three_doors 0 1 2)) (accepted 12)
    && same_answer (validate three_tasks (three_doors 1 0 2)) (refused 33)
    && same_answer (validate three_tasks (three_doors 1 0 0)) (refused 32)
    && same_answer (validate paired (plan_like_a 0 1 91)) (refused 33)
    -- of plans: 12 and 21, 12 and 30
    && same_answer (write_plan 13 0 byte_noise 92 (take 35 byte_noise)).answer (refused 12)
    && plan_refuses (read_plan 13 13 (take 35 plan_a)) 12
    -- 16 cells suffice for three tasks and two points, 15 give 20
    && same_answer (plan three_tasks (take 16 byte_noise) byte_noise).answer (accepted 12)
    && same_answer (plan three_tasks (take 15 byte_noise) byte_noise).answer (refused 20)
    -- each number of entries at its limits, where the offsets no longer fit and 13 is due, and beyond: tasks, doors, starts, pairs, rules
    && reading_refuses (read_sheet (changed 8 0)) 12
    && reading_refuses (read_sheet (changed 8 1)) 13
    && reading_refuses (read_sheet (changed 8 12)) 13
    && reading_refuses (read_sheet (changed 8 13)) 12
    && reading_refuses (read_sheet (changed 14 0)) 12
    && reading_refuses (read_sheet (changed 14 1)) 13
    && reading_refuses (read_sheet (changed 14 64)) 13
    && reading_refuses (read_sheet (changed 14 65)) 12
    && reading_refuses (read_sheet (changed 20 0)) 12
    && reading_refuses (read_sheet (changed 20 16)) 13
    && reading_refuses (read_sheet (changed 20 17)) 12
    && reading_refuses (read_sheet (changed 26 32)) 13
    && reading_refuses (read_sheet (changed 26 33)) 12
    && reading_refuses (read_sheet (changed 32 32)) 13
    && reading_refuses (read_sheet (changed 32 33)) 12
    -- points with P times P distances: none, 1, 64 and 65; and a distance too few or too many
    && reading_refuses (read_sheet (pointed 0 0 0)) 12
    && reading_refuses (read_sheet (pointed 1 1 0)) 13
    && reading_refuses (read_sheet (pointed 64 0 16)) 13
    && reading_refuses (read_sheet (pointed 65 129 16)) 12
    && reading_refuses (read_sheet (changed 44 8)) 12
    && reading_refuses (read_sheet (changed 44 10)) 12
    && reading_refuses (read_sheet (pointed 64 255 15)) 12
    -- least counts 0, 12, which is above N, and 13; watched 0, 3 and 4
    && reading_refuses (read_sheet (ruled 2 0)) 14
    && reading_answers (read_sheet (ruled 2 12)) 2 3
    && reading_refuses (read_sheet (ruled 2 13)) 14
    && reading_answers (read_sheet (ruled 0 1)) 2 3
    && reading_answers (read_sheet (ruled 3 1)) 2 3
    && reading_refuses (read_sheet (ruled 4 1)) 14
    -- the full list alone can be too light: one task, w -1; with E 0 it gets 16, with E 1 it reads
    && reading_refuses (read_sheet (set (set shortest 46 255) 47 255)) 16
    && reading_answers (read_sheet (set (set (set shortest 46 255) 47 255) 2 1)) 1 1
    -- a repeated pair; a start listed twice, of which the earlier is planned
    && same_answer (plan (like_a 10 2 (pair_bytes 1 0 ++ pair_bytes 1 0) 0 []) cell_noise byte_noise).answer (accepted 126)
    && same_answer (plan (set sheet_b 82 1) cell_noise byte_noise).answer (accepted 70314)
    && eqb (get_or (plan (set sheet_b 82 1) cell_noise byte_noise).bytes 22 9) 0
    -- the second byte counts: kind 257, body number 257, offset 302, 258 tasks
    && reading_refuses (read_sheet (changed 1 1)) 11
    && reading_refuses (read_sheet (changed 5 1)) 13
    && reading_refuses (read_sheet (changed 7 1)) 13
    && reading_refuses (read_sheet (changed 9 1)) 12
    -- sheets of 66 and of 266 bytes; an offset without its second byte
    && eqb (length shortest) 66
    && reading_answers (read_sheet shortest) 1 1
    && eqb (length many_doors) 266
    && same_list (take 36 (drop 10 many_doors)) (2 ∷ 0 ∷ 48 ∷ 0 ∷ 21 ∷ 0 ∷ 3 ∷ 0 ∷ 2 ∷ 1 ∷ 1 ∷ 0 ∷ 4 ∷ 0 ∷ 4 ∷ 1 ∷ 0 ∷ 0 ∷ 5 ∷ 0 ∷ 4 ∷ 1 ∷ 0 ∷ 0 ∷ 6 ∷ 0 ∷ 4 ∷ 1 ∷ 1 ∷ 0 ∷ 7 ∷ 0 ∷ 8 ∷ 1 ∷ 1 ∷ 0 ∷ [])
    && reading_answers (read_sheet many_doors) 1 1
    && same_answer (plan many_doors (take 2 cell_noise) (take 34 byte_noise)).answer (accepted 17)
    && reading_refuses (read_sheet (set many_doors 19 0)) 13
