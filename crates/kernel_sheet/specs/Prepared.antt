-- What the numbers of the kernel mean: the arrays have the fields of a sheet, of any sheet, below its counts; and which sheets the kernel can work on.
-- Assumes nothing.
use Rattle.std.specs.Prelude.{◌≡◌, Bool, true, ◌&&◌, List, ℕ, ◌+◌, ◌*◌, ◌^◌, ◌≤◌, ◌<◌, eqb, ltb, ℤ, pos, nat_abs, length, get_or}
use Rattle.std.specs.Int.Signed.{mag}
use Rattle.model.specs.Folds.{any_below}
use Rattle.model.specs.TaskList.{member}
use Rattle.model.specs.Sheet.{Sheet}
use Rattle.model.specs.Cost.{load, cost}
use Rattle.model.specs.Plans.{is_completion}
use Rattle.model.specs.Passing.{CountsWithin, Plannable, LoadsHold}
use Rattle.kernel_sheet.specs.declared.Counts.{Counts}
use Rattle.kernel_sheet.specs.declared.Numbers.{Numbers}

-- ---- the numbers

pub record CountsOf (S : Sheet) (x : Counts) : Type 0 where
  pub end_load : x.end_load ≡ S.end_load
  pub tasks : x.tasks ≡ S.tasks
  pub doors : x.doors ≡ S.doors
  pub starts : x.starts ≡ S.starts
  pub rules : x.rules ≡ S.rules
  pub points : x.points ≡ S.points

-- some pair has sender t and receiver j
unfoldable pub sends : Sheet → ℕ → ℕ → Bool
sends S t j = any_below S.pairs (λ i. eqb (S.sender i) t && eqb (S.receiver i) j)

-- door d is one of task t
unfoldable pub serves : Sheet → ℕ → ℕ → Bool
serves S t d = ltb d S.doors && eqb (S.task d) t

-- of a task its change, the receivers of those pairs whose sender it is, and its doors
abbrev pub ChangesOf : Sheet → List ℤ → Type 0
ChangesOf S changes = (t : ℕ) → t < S.tasks → get_or changes t (pos 0) ≡ S.change t

abbrev pub ReceiversOf : Sheet → List ℕ → Type 0
ReceiversOf S receiving = (t j : ℕ) → t < S.tasks → member (get_or receiving t 0) j ≡ sends S t j

abbrev pub SetsOf : Sheet → List ℕ → Type 0
SetsOf S sets = (t d : ℕ) → t < S.tasks → member (get_or sets t 0) d ≡ serves S t d

pub record TasksOf (S : Sheet) (changes : List ℤ) (receiving sets : List ℕ) : Type 0 where
  pub change : ChangesOf S changes
  pub receivers : ReceiversOf S receiving
  pub doors : SetsOf S sets

-- of a door where the column of its arrival point begins, its task, its departure point and its work
abbrev pub BeginsOf : Sheet → List ℕ → Type 0
BeginsOf S columns = (d : ℕ) → d < S.doors → get_or columns d 0 ≡ S.arrive d * S.points

abbrev pub WorksOf : Sheet → List ℕ → Type 0
WorksOf S works = (d : ℕ) → d < S.doors → get_or works d 0 ≡ S.work d

pub record DoorsOf (S : Sheet) (columns tasks departs works : List ℕ) : Type 0 where
  pub column : BeginsOf S columns
  pub task : (d : ℕ) → d < S.doors → get_or tasks d 0 ≡ S.task d
  pub depart : (d : ℕ) → d < S.doors → get_or departs d 0 ≡ S.depart d
  pub work : WorksOf S works

-- of an access rule its door, the watched tasks, the least count, the charge, and that it is charged once at most
pub record RulesOf (S : Sheet) (doors watches leasts mosts charges : List ℕ) : Type 0 where
  pub door : (i : ℕ) → i < S.rules → get_or doors i 0 ≡ S.rule_door i
  pub watched : (i : ℕ) → i < S.rules → get_or watches i 0 ≡ S.watched i
  pub least : (i : ℕ) → i < S.rules → get_or leasts i 0 ≡ S.least_count i
  pub most : (i : ℕ) → i < S.rules → get_or mosts i 0 ≡ 1
  pub charge : (i : ℕ) → i < S.rules → get_or charges i 0 ≡ S.charge i

-- of a start its point
abbrev pub StartsOf : Sheet → List ℕ → Type 0
StartsOf S starts = (i : ℕ) → i < S.starts → get_or starts i 0 ≡ S.start_point i

-- of a point its end cost
abbrev pub EndsOf : Sheet → List ℕ → Type 0
EndsOf S ends = (p : ℕ) → p < S.points → get_or ends p 0 ≡ S.end_cost p

-- all but the distances
pub record NumbersOf (S : Sheet) (x : Numbers) : Type 0 where
  pub counts : CountsOf S x.counts
  pub tasks : TasksOf S x.tasks.change x.tasks.receivers x.tasks.doors
  pub doors : DoorsOf S x.doors.column x.doors.task x.doors.depart x.doors.work
  pub rules : RulesOf S x.rules.door x.rules.watched x.rules.least x.rules.most x.rules.charge
  pub starts : StartsOf S x.starts
  pub ends : EndsOf S x.ends

-- the distances by columns: those to point 0 from every point, then those to point 1, and on
pub record ColumnsOf (S : Sheet) (columns : List ℕ) : Type 0 where
  pub room : S.points * S.points ≤ length columns
  pub entry : (p q : ℕ) → p < S.points → q < S.points → get_or columns (q * S.points + p) 0 ≡ S.distance p q

-- ---- the sheets

-- what the kernel asks of a sheet: counts within the table of the layout (12), what 14, 15 and 17 leave, for every essential list a load that is not below zero (16),
-- changes of 16 bits, works, charges, loads and distances of 32, and no completion that costs 2 ^ 56 or more
pub record Workable (S : Sheet) : Type 0 where
  pub counts : CountsWithin S
  pub plannable : Plannable S
  pub loads : LoadsHold S
  pub change : (t : ℕ) → t < S.tasks → mag (S.change t) < 2 ^ 15
  pub work : (d : ℕ) → d < S.doors → S.work d < 2 ^ 32
  pub charge : (i : ℕ) → i < S.rules → S.charge i < 2 ^ 32
  pub load : (K : ℕ) → nat_abs (load S K) < 2 ^ 32
  pub distance : (p q : ℕ) → p < S.points → q < S.points → S.distance p q < 2 ^ 32
  pub sums : (K p : ℕ) (ds : List ℕ) → is_completion S K ds ≡ true → cost S p ds < 2 ^ 56

-- a sheet that the numbers and the columns are of, and that the kernel can work on
pub record Prepared (S : Sheet) (x : Numbers) (columns : List ℕ) : Type 0 where
  pub workable : Workable S
  pub numbers : NumbersOf S x
  pub columned : ColumnsOf S columns
