-- Sheet A and its neighbours: the starred lines, by one computed check on the definitions (01, Sheet A and its neighbours, which every definition here is from but sheet B, and A
-- with end load 2 as 02, Req 03, has it). Assumes nothing.
use Rattle.std.specs.Prelude.{Bool, false, not, ◌&&◌, List, [], ◌∷◌, ◌++◌, ℕ, ◌+◌, ◌*◌, ◌/◌, ◌%◌, eqb, length, set, take}
use Rattle.model.specs.Folds.{same_list}
use Rattle.model.specs.Plans.{round_cost}
use Rattle.model.specs.Bytes.{overwrite_at, written_at}
use Rattle.model.specs.Answer.{Answer, refused, accepted, status, placed}
use Rattle.model.specs.SheetLayout.{decode}
use Rattle.model.specs.Faults.{Counts, too_light, read_sheet}
use Rattle.model.specs.PlanLayout.{write_plan, PlanRead, read_plan}
use Rattle.model.specs.PlanInHand.{PlanInHand, no_doors, with_doors, in_hand}
use Rattle.model.specs.Validating.{validate}
use Rattle.model.specs.Planning.{Planned, plan}
use Rattle.model.specs.Lightest.{lightest_too_light, plan_before}
use Rattle.model.specs.Printing.{ascii, Printed, print, print_input, print_cells, printed}

-- ---- the sheets

-- E 10; w +5, -3; door 0 (task 0, points 1 to 1, work 4), door 1 (task 1, points 2 to 2, work 6); start at point 0; no pairs or rules;
-- end costs 0, 20, 30; distance rows 0 2 3, 2 0 4, 3 4 0
abbrev pub sheet_a : List ℕ
sheet_a =
    1 ∷ 0 ∷ 10 ∷ 0
    ∷ 1 ∷ 0 ∷ 46 ∷ 0 ∷ 2 ∷ 0
    ∷ 2 ∷ 0 ∷ 50 ∷ 0 ∷ 2 ∷ 0
    ∷ 3 ∷ 0 ∷ 70 ∷ 0 ∷ 1 ∷ 0
    ∷ 4 ∷ 0 ∷ 72 ∷ 0 ∷ 0 ∷ 0
    ∷ 5 ∷ 0 ∷ 72 ∷ 0 ∷ 0 ∷ 0
    ∷ 6 ∷ 0 ∷ 72 ∷ 0 ∷ 3 ∷ 0
    ∷ 7 ∷ 0 ∷ 84 ∷ 0 ∷ 9 ∷ 0
    ∷ 5 ∷ 0 ∷ 253 ∷ 255
    ∷ 0 ∷ 0 ∷ 1 ∷ 0 ∷ 1 ∷ 0 ∷ 4 ∷ 0 ∷ 0 ∷ 0
    ∷ 1 ∷ 0 ∷ 2 ∷ 0 ∷ 2 ∷ 0 ∷ 6 ∷ 0 ∷ 0 ∷ 0
    ∷ 0 ∷ 0
    ∷ 0 ∷ 0 ∷ 0 ∷ 0 ∷ 20 ∷ 0 ∷ 0 ∷ 0 ∷ 30 ∷ 0 ∷ 0 ∷ 0
    ∷ 0 ∷ 0 ∷ 2 ∷ 0 ∷ 3 ∷ 0
    ∷ 2 ∷ 0 ∷ 0 ∷ 0 ∷ 4 ∷ 0
    ∷ 3 ∷ 0 ∷ 4 ∷ 0 ∷ 0 ∷ 0
    ∷ []

-- a number of two bytes
abbrev two : ℕ → List ℕ
two n = n % 256 ∷ n / 256 ∷ []

-- contents line i, of a body at a place with so many entries
abbrev line : ℕ → ℕ → ℕ → List ℕ
line i place count = two i ++ two place ++ two count

-- the first 46 bytes of a sheet with end load e and n tasks, d doors, s starts, q pairs, r rules and p points
abbrev pub head_of : ℕ → ℕ → ℕ → ℕ → ℕ → ℕ → ℕ → List ℕ
head_of e n d s q r p =
    two 1 ++ two e
    ++ line 1 46 n
    ++ line 2 (46 + 2 * n) d
    ++ line 3 (46 + 2 * n + 10 * d) s
    ++ line 4 (46 + 2 * n + 10 * d + 2 * s) q
    ++ line 5 (46 + 2 * n + 10 * d + 2 * s + 4 * q) r
    ++ line 6 (46 + 2 * n + 10 * d + 2 * s + 4 * q + 10 * r) p
    ++ line 7 (46 + 2 * n + 10 * d + 2 * s + 4 * q + 10 * r + 4 * p) (p * p)

-- A with end load e, and with so many pairs and rules, whose bytes are given. With 10 and none it is A again, which the check compares
abbrev pub like_a : ℕ → ℕ → List ℕ → ℕ → List ℕ → List ℕ
like_a e pairs pair_bytes rules rule_bytes =
    head_of e 2 2 1 pairs rules 3
    ++ (5 ∷ 0 ∷ 253 ∷ 255
    ∷ 0 ∷ 0 ∷ 1 ∷ 0 ∷ 1 ∷ 0 ∷ 4 ∷ 0 ∷ 0 ∷ 0
    ∷ 1 ∷ 0 ∷ 2 ∷ 0 ∷ 2 ∷ 0 ∷ 6 ∷ 0 ∷ 0 ∷ 0
    ∷ 0 ∷ 0 ∷ [])
    ++ pair_bytes ++ rule_bytes
    ++ (0 ∷ 0 ∷ 0 ∷ 0 ∷ 20 ∷ 0 ∷ 0 ∷ 0 ∷ 30 ∷ 0 ∷ 0 ∷ 0
    ∷ 0 ∷ 0 ∷ 2 ∷ 0 ∷ 3 ∷ 0
    ∷ 2 ∷ 0 ∷ 0 ∷ 0 ∷ 4 ∷ 0
    ∷ 3 ∷ 0 ∷ 4 ∷ 0 ∷ 0 ∷ 0
    ∷ [])

abbrev pub pair_bytes : ℕ → ℕ → List ℕ
pair_bytes sender receiver = sender ∷ 0 ∷ receiver ∷ 0 ∷ []

abbrev pub rule_bytes : ℕ → ℕ → ℕ → ℕ → List ℕ
rule_bytes door watched least_count charge = door ∷ 0 ∷ watched ∷ 0 ∷ least_count ∷ 0 ∷ charge ∷ 0 ∷ 0 ∷ 0 ∷ []

-- A with the pair (1, 0)
abbrev pub paired : List ℕ
paired = like_a 10 1 (pair_bytes 1 0) 0 []

-- A with the pairs (0, 1) and (1, 0)
abbrev pub ringed : List ℕ
ringed = like_a 10 2 (pair_bytes 0 1 ++ pair_bytes 1 0) 0 []

-- A with the pair (0, 0)
abbrev pub self_paired : List ℕ
self_paired = like_a 10 1 (pair_bytes 0 0) 0 []

-- A with a rule on door 0, watched 2, least 1
abbrev pub charged : ℕ → List ℕ
charged charge = like_a 10 0 [] 1 (rule_bytes 0 2 1 charge)

-- A with another end load
abbrev pub ended : ℕ → List ℕ
ended e = like_a e 0 [] 0 []

-- A with end load 2, where the list {1} has load -1, and with so many pairs (02, Req 03)
abbrev pub aboard : ℕ → List ℕ → List ℕ
aboard pairs bytes = like_a 2 pairs bytes 0 []

-- Sheet B, of our own: two starts, two doors for task 0, doors that depart from another point than they arrive at, distances that differ with the
-- direction, and numbers of several bytes. E 20; w +7, -4; door 0 (task 1, points 2 to 0, work 70,000), door 1 (task 0, points 1 to 2, work 5), door 2 (task 0,
-- points 0 to 1, work 3); starts at points 1 and 2; a rule on door 1, watched 2, least 1, charge 300; end costs 9, 4, 6; distance rows 0 5 1, 2 0 300, 7 3 0
abbrev pub sheet_b : List ℕ
sheet_b =
    1 ∷ 0 ∷ 20 ∷ 0
    ∷ 1 ∷ 0 ∷ 46 ∷ 0 ∷ 2 ∷ 0
    ∷ 2 ∷ 0 ∷ 50 ∷ 0 ∷ 3 ∷ 0
    ∷ 3 ∷ 0 ∷ 80 ∷ 0 ∷ 2 ∷ 0
    ∷ 4 ∷ 0 ∷ 84 ∷ 0 ∷ 0 ∷ 0
    ∷ 5 ∷ 0 ∷ 84 ∷ 0 ∷ 1 ∷ 0
    ∷ 6 ∷ 0 ∷ 94 ∷ 0 ∷ 3 ∷ 0
    ∷ 7 ∷ 0 ∷ 106 ∷ 0 ∷ 9 ∷ 0
    ∷ 7 ∷ 0 ∷ 252 ∷ 255
    ∷ 1 ∷ 0 ∷ 2 ∷ 0 ∷ 0 ∷ 0 ∷ 112 ∷ 17 ∷ 1 ∷ 0
    ∷ 0 ∷ 0 ∷ 1 ∷ 0 ∷ 2 ∷ 0 ∷ 5 ∷ 0 ∷ 0 ∷ 0
    ∷ 0 ∷ 0 ∷ 0 ∷ 0 ∷ 1 ∷ 0 ∷ 3 ∷ 0 ∷ 0 ∷ 0
    ∷ 1 ∷ 0 ∷ 2 ∷ 0
    ∷ 1 ∷ 0 ∷ 2 ∷ 0 ∷ 1 ∷ 0 ∷ 44 ∷ 1 ∷ 0 ∷ 0
    ∷ 9 ∷ 0 ∷ 0 ∷ 0 ∷ 4 ∷ 0 ∷ 0 ∷ 0 ∷ 6 ∷ 0 ∷ 0 ∷ 0
    ∷ 0 ∷ 0 ∷ 5 ∷ 0 ∷ 1 ∷ 0
    ∷ 2 ∷ 0 ∷ 0 ∷ 0 ∷ 44 ∷ 1
    ∷ 7 ∷ 0 ∷ 3 ∷ 0 ∷ 0 ∷ 0
    ∷ []

-- ---- what is lent: 14 cells and a buffer of 39 bytes, with noise in them

abbrev pub cell_noise : List ℕ
cell_noise = 901 ∷ 902 ∷ 903 ∷ 904 ∷ 905 ∷ 906 ∷ 907 ∷ 908 ∷ 909 ∷ 910 ∷ 911 ∷ 912 ∷ 913 ∷ 914 ∷ []

abbrev pub byte_noise : List ℕ
byte_noise =
    201 ∷ 202 ∷ 203 ∷ 204 ∷ 205 ∷ 206 ∷ 207 ∷ 208 ∷ 209 ∷ 210 ∷ 211 ∷ 212 ∷ 213
    ∷ 214 ∷ 215 ∷ 216 ∷ 217 ∷ 218 ∷ 219 ∷ 220 ∷ 221 ∷ 222 ∷ 223 ∷ 224 ∷ 225 ∷ 226
    ∷ 227 ∷ 228 ∷ 229 ∷ 230 ∷ 231 ∷ 232 ∷ 233 ∷ 234 ∷ 235 ∷ 236 ∷ 237 ∷ 238 ∷ 239 ∷ []

-- ---- the plans

-- the plan of A, as document 01 prints it
abbrev pub plan_a : List ℕ
plan_a =
    0x02 ∷ 0x00 ∷ 0x00 ∷ 0x00 ∷ 0x01 ∷ 0x00 ∷ 0x16 ∷ 0x00 ∷ 0x01 ∷ 0x00 ∷ 0x02 ∷ 0x00
    ∷ 0x18 ∷ 0x00 ∷ 0x02 ∷ 0x00 ∷ 0x03 ∷ 0x00 ∷ 0x1c ∷ 0x00 ∷ 0x01 ∷ 0x00 ∷ 0x00 ∷ 0x00
    ∷ 0x00 ∷ 0x00 ∷ 0x01 ∷ 0x00 ∷ 0x5c ∷ 0x00 ∷ 0x00 ∷ 0x00 ∷ 0x00 ∷ 0x00 ∷ 0x00 ∷ 0x00 ∷ []

-- the plan of B: start 1, doors 0, 2, cost 70,007
abbrev plan_b : List ℕ
plan_b =
    2 ∷ 0 ∷ 0 ∷ 0 ∷ 1 ∷ 0 ∷ 22 ∷ 0 ∷ 1 ∷ 0 ∷ 2 ∷ 0
    ∷ 24 ∷ 0 ∷ 2 ∷ 0 ∷ 3 ∷ 0 ∷ 28 ∷ 0 ∷ 1 ∷ 0 ∷ 1 ∷ 0
    ∷ 0 ∷ 0 ∷ 2 ∷ 0 ∷ 119 ∷ 17 ∷ 1 ∷ 0 ∷ 0 ∷ 0 ∷ 0 ∷ 0 ∷ []

-- a plan like that of A, for two doors and a cost below 256
abbrev pub plan_like_a : ℕ → ℕ → ℕ → List ℕ
plan_like_a d₁ d₂ cost =
    2 ∷ 0 ∷ 0 ∷ 0 ∷ 1 ∷ 0 ∷ 22 ∷ 0 ∷ 1 ∷ 0 ∷ 2 ∷ 0
    ∷ 24 ∷ 0 ∷ 2 ∷ 0 ∷ 3 ∷ 0 ∷ 28 ∷ 0 ∷ 1 ∷ 0 ∷ 0 ∷ 0
    ∷ d₁ ∷ 0 ∷ d₂ ∷ 0 ∷ cost ∷ 0 ∷ 0 ∷ 0 ∷ 0 ∷ 0 ∷ 0 ∷ 0 ∷ []

-- what A's cells hold after planning, with the noise beyond; what is printed for A
abbrev cells_a : List ℕ
cells_a = 0 ∷ 20 ∷ 30 ∷ 54 ∷ 24 ∷ 84 ∷ 57 ∷ 64 ∷ 36 ∷ 92 ∷ 68 ∷ 90 ∷ 913 ∷ 914 ∷ []

abbrev lines_a : List ℕ
lines_a = ascii "cost 92\nstart 0\ndoor 0 task 0 open 3\ndoor 1 task 1 open 2\n"

-- ---- comparing

abbrev pub same_answer : Answer ℕ → Answer ℕ → Bool
same_answer (refused m) (refused n) = eqb m n
same_answer (refused m) (accepted n) = false
same_answer (accepted m) (refused n) = false
same_answer (accepted m) (accepted n) = eqb m n

-- reading refuses with n; reading answers N and P
abbrev pub reading_refuses : Answer Counts → ℕ → Bool
reading_refuses (refused m) n = eqb m n
reading_refuses (accepted c) n = false

abbrev pub reading_answers : Answer Counts → ℕ → ℕ → Bool
reading_answers (refused m) N P = false
reading_answers (accepted c) N P = eqb c.tasks N && eqb c.points P

-- reading a plan refuses with n; it answers a start, doors and a cost
abbrev pub plan_refuses : Answer PlanRead → ℕ → Bool
plan_refuses (refused m) n = eqb m n
plan_refuses (accepted x) n = false

abbrev pub plan_answers : Answer PlanRead → ℕ → List ℕ → ℕ → Bool
plan_answers (refused m) start doors cost = false
plan_answers (accepted x) start doors cost = eqb x.start start && same_list x.doors doors && eqb x.cost cost

-- a plan in hand has these doors in its array, so many of them its own, and this cost
abbrev pub holds : PlanInHand → List ℕ → ℕ → ℕ → Bool
holds x doors count cost = same_list x.doors doors && eqb x.count count && eqb x.cost cost

-- planning answers the cost, and leaves these cells and these plan bytes in front of the noise
abbrev planning : Planned → ℕ → List ℕ → List ℕ → Bool
planning r cost cells bytes =
    same_answer r.answer (accepted cost)
    && same_list r.cells (cells ++ (913 ∷ 914 ∷ []))
    && same_list r.bytes (bytes ++ (237 ∷ 238 ∷ 239 ∷ []))

-- planning refuses with n, and leaves the noise as it was
abbrev planning_refuses : Planned → ℕ → Bool
planning_refuses r n = same_answer r.answer (refused n) && same_list r.cells cell_noise && same_list r.bytes byte_noise

-- printing writes so many bytes, and leaves this buffer and these cells
abbrev printing : Printed → ℕ → List ℕ → List ℕ → Bool
printing r written bytes cells = eqb r.written written && same_list r.bytes bytes && same_list r.cells cells

-- ---- the check

-- every starred line
unfoldable pub check_starred : Bool
check_starred =
    eqb (length sheet_a) 102
    && same_list sheet_a (ended 10)
    && reading_answers (read_sheet sheet_a) 2 3
    -- A: doors 0, 1 cost 92; doors 1, 0 cost 126
    && eqb (round_cost (decode sheet_a) 0 (0 ∷ 1 ∷ [])) 92
    && eqb (round_cost (decode sheet_a) 0 (1 ∷ 0 ∷ [])) 126
    -- A planned
    && planning (plan sheet_a cell_noise byte_noise) 92 (0 ∷ 20 ∷ 30 ∷ 54 ∷ 24 ∷ 84 ∷ 57 ∷ 64 ∷ 36 ∷ 92 ∷ 68 ∷ 90 ∷ []) plan_a
    -- pair (1, 0) added: cells 6 to 8 keep their numbers
    && planning (plan paired cell_noise byte_noise) 126 (0 ∷ 20 ∷ 30 ∷ 54 ∷ 24 ∷ 84 ∷ 907 ∷ 908 ∷ 909 ∷ 126 ∷ 138 ∷ 90 ∷ []) (plan_like_a 1 0 126)
    -- 17
    && reading_refuses (read_sheet ringed) 17
    && planning_refuses (plan ringed cell_noise byte_noise) 17
    && reading_refuses (read_sheet self_paired) 17
    -- a rule on door 0, with charge 50 and with charge 34, where both plans cost 126
    && planning (plan (charged 50) cell_noise byte_noise) 126 (0 ∷ 20 ∷ 30 ∷ 54 ∷ 24 ∷ 84 ∷ 57 ∷ 64 ∷ 36 ∷ 126 ∷ 118 ∷ 90 ∷ []) (plan_like_a 1 0 126)
    && planning (plan (charged 34) cell_noise byte_noise) 126 (0 ∷ 20 ∷ 30 ∷ 54 ∷ 24 ∷ 84 ∷ 57 ∷ 64 ∷ 36 ∷ 126 ∷ 102 ∷ 90 ∷ []) (plan_like_a 0 1 126)
    && eqb (round_cost (decode (charged 34)) 0 (1 ∷ 0 ∷ [])) 126
    -- end loads
    && reading_refuses (read_sheet (ended 2)) 16
    && reading_answers (read_sheet (ended 3)) 2 3
    -- judged
    && same_answer (validate sheet_a plan_a) (accepted 92)
    && same_answer (validate sheet_a (plan_like_a 0 0 92)) (refused 32)
    && same_answer (validate sheet_a (plan_like_a 0 1 91)) (refused 34)
    && same_answer (validate paired plan_a) (refused 33)
    -- the print program
    && same_list (printed sheet_a) lines_a

-- what the starred lines do not see: the unstarred lines on room, the numbers 10 to 15, plans written, read and in hand, refusals in print, and sheet B, whose figures are those of an
-- enumeration made apart from these definitions
unfoldable pub check_further : Bool
check_further =
    -- 12 cells suffice, 11 give 20; 36 bytes suffice, 35 give 21; both short: 20
    same_answer (plan sheet_a (take 12 cell_noise) (take 36 byte_noise)).answer (accepted 92)
    && same_answer (plan sheet_a (take 11 cell_noise) (take 36 byte_noise)).answer (refused 20)
    && same_answer (plan sheet_a (take 12 cell_noise) (take 35 byte_noise)).answer (refused 21)
    && same_answer (plan sheet_a (take 11 cell_noise) (take 35 byte_noise)).answer (refused 20)
    -- a sheet of 45 bytes; kind 2; thirteen tasks; a wrong body number, a wrong offset, a byte too many; a door of task 2; a task without a door
    && reading_refuses (read_sheet (take 45 sheet_a)) 10
    && reading_refuses (read_sheet (set sheet_a 0 2)) 11
    && reading_refuses (read_sheet (set sheet_a 8 13)) 12
    && reading_refuses (read_sheet (set sheet_a 4 2)) 13
    && reading_refuses (read_sheet (set sheet_a 6 47)) 13
    && reading_refuses (read_sheet (sheet_a ++ (0 ∷ []))) 13
    && reading_refuses (read_sheet (set sheet_a 60 2)) 14
    && reading_refuses (read_sheet (set sheet_a 60 0)) 15
    -- a judged plan of 35 bytes; door 2
    && same_answer (validate sheet_a (take 35 plan_a)) (refused 30)
    && same_answer (validate sheet_a (plan_like_a 0 2 92)) (refused 31)
    -- the plan of A written, with three doors lent and three bytes to spare; a buffer of 35 bytes, no door, thirteen doors, one door lent
    && same_answer (write_plan 2 0 (0 ∷ 1 ∷ 7 ∷ []) 92 byte_noise).answer (accepted 36)
    && same_list (write_plan 2 0 (0 ∷ 1 ∷ 7 ∷ []) 92 byte_noise).bytes (plan_a ++ (237 ∷ 238 ∷ 239 ∷ []))
    && same_answer (write_plan 2 0 (0 ∷ 1 ∷ []) 92 (take 35 byte_noise)).answer (refused 21)
    && same_list (write_plan 2 0 (0 ∷ 1 ∷ []) 92 (take 35 byte_noise)).bytes (take 35 byte_noise)
    && same_answer (write_plan 0 0 (0 ∷ 1 ∷ []) 92 byte_noise).answer (refused 12)
    && same_answer (write_plan 13 0 byte_noise 92 (byte_noise ++ byte_noise)).answer (refused 12)
    && same_answer (write_plan 2 0 (0 ∷ []) 92 (take 35 byte_noise)).answer (refused 12)
    && same_list (write_plan 2 0 (0 ∷ []) 92 byte_noise).bytes byte_noise
    -- and read, with three doors lent; with one door lent, for three tasks, and with a byte too many
    && plan_answers (read_plan 2 3 plan_a) 0 (0 ∷ 1 ∷ 0 ∷ []) 92
    && plan_refuses (read_plan 2 1 plan_a) 12
    && plan_refuses (read_plan 3 3 plan_a) 30
    && plan_refuses (read_plan 2 2 (plan_a ++ (0 ∷ []))) 30
    -- a plan in hand: that of A, and one that is handed thirteen doors
    && holds (in_hand 2 plan_a) (0 ∷ 1 ∷ 0 ∷ 0 ∷ 0 ∷ 0 ∷ 0 ∷ 0 ∷ 0 ∷ 0 ∷ 0 ∷ 0 ∷ []) 2 92
    && holds (with_doors (no_doors 5) (take 13 byte_noise)) (take 12 byte_noise) 12 5
    -- two bytes written within a buffer, at its end, and past it
    && same_list (overwrite_at 1 (7 ∷ 8 ∷ []) (1 ∷ 2 ∷ 3 ∷ 4 ∷ [])) (1 ∷ 7 ∷ 8 ∷ 4 ∷ [])
    && same_list (overwrite_at 2 (7 ∷ 8 ∷ []) (1 ∷ 2 ∷ 3 ∷ 4 ∷ [])) (1 ∷ 2 ∷ 7 ∷ 8 ∷ [])
    && same_list (overwrite_at 3 (7 ∷ 8 ∷ []) (1 ∷ 2 ∷ 3 ∷ 4 ∷ [])) (1 ∷ 2 ∷ 3 ∷ 4 ∷ [])
    && eqb (written_at 2 (7 ∷ 8 ∷ []) (1 ∷ 2 ∷ 3 ∷ 4 ∷ [])) 2
    && eqb (written_at 3 (7 ∷ 8 ∷ []) (1 ∷ 2 ∷ 3 ∷ 4 ∷ [])) 0
    -- through the C interface: 0 with N and P for A, and 16 with what was there before where A has E 2
    && eqb (status (read_sheet sheet_a)) 0
    && eqb (placed (λ (c : Counts). c.tasks) (read_sheet sheet_a) 7) 2
    && eqb (placed (λ (c : Counts). c.points) (read_sheet sheet_a) 7) 3
    && eqb (status (read_sheet (set sheet_a 2 2))) 16
    && eqb (placed (λ (c : Counts). c.tasks) (read_sheet (set sheet_a 2 2)) 7) 7
    -- refusals in print
    && same_list (printed ringed) (ascii "refused 17\n")
    && same_list (printed (take 45 sheet_a)) (ascii "refused 10\n")
    -- the print program's cells, and the bytes that it reads at most
    && eqb print_cells 4096
    && eqb print_input 9639
    -- printed into a buffer: A into 58 bytes and more, A into 57, and a refusal for want of cells
    && printing (print sheet_a cell_noise (byte_noise ++ byte_noise)) 58 (lines_a ++ (220 ∷ 221 ∷ 222 ∷ 223 ∷ 224 ∷ 225 ∷ 226 ∷ 227 ∷ 228 ∷ 229 ∷ 230 ∷ 231 ∷ 232 ∷ 233 ∷ 234 ∷ 235 ∷ 236 ∷ 237 ∷ 238 ∷ 239 ∷ [])) cells_a
    && printing (print sheet_a cell_noise (take 57 (byte_noise ++ byte_noise))) 0 (take 57 (byte_noise ++ byte_noise)) cells_a
    && printing (print sheet_a (take 11 cell_noise) (take 11 byte_noise)) 11 (ascii "refused 20\n") (take 11 cell_noise)
    -- sheet B
    && planning (plan sheet_b cell_noise byte_noise) 70007 (9 ∷ 4 ∷ 6 ∷ 7 ∷ 11 ∷ 92 ∷ 70025 ∷ 74809 ∷ 70009 ∷ 70030 ∷ 70314 ∷ 70007 ∷ []) plan_b
    && same_answer (validate sheet_b plan_b) (accepted 70007)
    && same_list (printed sheet_b) (ascii "cost 70007\nstart 1\ndoor 0 task 1 open 3\ndoor 2 task 0 open 1\n")

-- a crate taken aboard in the round (02, Req 03)
unfoldable pub check_aboard : Bool
check_aboard =
    -- with the pair (1, 0), which keeps {1} from being open, it is planned, and cells 6 to 8 keep their numbers; the old 16 refused it
    planning (plan (aboard 1 (pair_bytes 1 0)) cell_noise byte_noise) 70 (0 ∷ 20 ∷ 30 ∷ 38 ∷ 24 ∷ 52 ∷ 907 ∷ 908 ∷ 909 ∷ 70 ∷ 74 ∷ 58 ∷ []) (plan_like_a 1 0 70)
    && same_answer (validate (aboard 1 (pair_bytes 1 0)) (plan_like_a 1 0 70)) (accepted 70)
    && same_list (printed (aboard 1 (pair_bytes 1 0))) (ascii "cost 70\nstart 0\ndoor 1 task 1 open 3\ndoor 0 task 0 open 1\n")
    && planning_refuses (plan_before (aboard 1 (pair_bytes 1 0)) cell_noise byte_noise) 16
    -- without the pair it gets 16
    && planning_refuses (plan (aboard 0 []) cell_noise byte_noise) 16
    -- with the pair (0, 0) it gets 17, although 16 applies too
    && reading_refuses (read_sheet (aboard 1 (pair_bytes 0 0))) 17
    && too_light (decode (aboard 1 (pair_bytes 0 0)))
    -- with the pairs (0, 1) and (1, 0) it gets 17, and the new 16 does not apply; the old one did, and was answered
    && reading_refuses (read_sheet (aboard 2 (pair_bytes 0 1 ++ pair_bytes 1 0))) 17
    && not (too_light (decode (aboard 2 (pair_bytes 0 1 ++ pair_bytes 1 0))))
    && planning_refuses (plan_before (aboard 2 (pair_bytes 0 1 ++ pair_bytes 1 0)) cell_noise byte_noise) 16
    -- A itself passes the old 16, and is planned as it was
    && not (lightest_too_light (decode sheet_a))
    && planning (plan_before sheet_a cell_noise byte_noise) 92 (0 ∷ 20 ∷ 30 ∷ 54 ∷ 24 ∷ 84 ∷ 57 ∷ 64 ∷ 36 ∷ 92 ∷ 68 ∷ 90 ∷ []) plan_a
