-- What the arrays say of the list at hand: who waits for its tasks, its load, its doors that can come first, and what each door costs but for the way and the rest
-- (01, Cost of a round; 000, (2.12), (4.1) and (4.2)). Assumes nothing.
use Rattle.std.specs.Prelude.{◌≡◌, true, cond, ◌&&◌, List, ℕ, zero, suc, ◌+◌, ◌-◌, ◌*◌, ◌^◌, ◌≤◌, ◌<◌, min, T, eqb, ltb, ℤ, pos, ◌+ℤ◌, nat_abs, length, get_or}
use Rattle.std.specs.Int.Bits.{bit_or}
use Rattle.std.specs.Int.Signed.{mag, non_neg}
use Rattle.model.specs.Folds.{any_below, sum_below, map_below}
use Rattle.model.specs.TaskList.{member, watched_in}
use Rattle.model.specs.Sheet.{Sheet}
use Rattle.model.specs.Orders.{essential}
use Rattle.model.specs.Method.{can_come_first}
use Rattle.model.specs.Cost.{load, charges}
use Rattle.model.specs.Bytes.{overwrite}
use Rattle.model.specs.SheetLayout.{max_tasks, max_doors, max_rules}
use Rattle.kernel_sheet.specs.declared.Numbers.{Numbers}
use Rattle.kernel_sheet.specs.Prepared.{CountsOf, ChangesOf, SetsOf, WorksOf, RulesOf, Workable}

-- ---- of any arrays

-- the union of xs t over the tasks t of K below n
abbrev pub union_below : List ℕ → ℕ → ℕ → ℕ
union_below xs K zero = 0
union_below xs K (suc n) = cond (member K n) (bit_or (union_below xs K n) (get_or xs n 0)) (union_below xs K n)

-- and of all tasks
unfoldable pub union_of : List ℕ → ℕ → ℕ
union_of xs K = union_below xs K max_tasks

-- the end load and the changes of the tasks of K below n
abbrev pub sum_of_below : ℕ → List ℤ → ℕ → ℕ → ℤ
sum_of_below end changes K zero = pos end
sum_of_below end changes K (suc n) = sum_of_below end changes K n +ℤ cond (member K n) (get_or changes n (pos 0)) (pos 0)

-- and of all tasks
unfoldable pub sum_of : ℕ → List ℤ → ℕ → ℤ
sum_of end changes K = sum_of_below end changes K max_tasks

-- what summing asks: a list of tasks, changes of 16 bits, and a sum that is not below zero
pub record Loadable (end : ℕ) (changes : List ℤ) (K : ℕ) : Type 0 where
  pub list : K < 2 ^ max_tasks
  pub small : (t : ℕ) → t < max_tasks → member K t ≡ true → mag (get_or changes t (pos 0)) < 2 ^ 15
  pub holds : T (non_neg (sum_of end changes K))

-- the bits of a mask of watched tasks
abbrev pub watch_bits : ℕ
watch_bits = 16

-- how often a rule is charged while K is open: by how many the watched tasks in K pass the least count, and one; at most so often
unfoldable pub times_by : ℕ → ℕ → ℕ → ℕ → ℕ
times_by watched least most K = min (watched_in watch_bits watched K + 1 - least) most

-- the same of rule i
unfoldable pub times_of : List ℕ → List ℕ → List ℕ → ℕ → ℕ → ℕ
times_of watches leasts mosts K i = times_by (get_or watches i 0) (get_or leasts i 0) (get_or mosts i 0) K

-- what the first n rules, each charged so often, cost on door d
unfoldable pub charged_at : List ℕ → List ℕ → (ℕ → ℕ) → ℕ → ℕ → ℕ
charged_at doors charges times n d = sum_below n (λ i. cond (eqb (get_or doors i 0) d) (get_or charges i 0 * times i) 0)

-- the sums at the doors: with what is charged there
unfoldable pub sum_at : List ℕ → List ℕ → List ℕ → List ℕ → List ℕ → List ℕ → ℕ → ℕ → ℕ → ℕ
sum_at works doors watches leasts mosts charges rules K d = get_or works d 0 + charged_at doors charges (times_of watches leasts mosts K) rules d

-- what adding the charges of n rules asks: rules on doors that have a place, sums of 32 bits there, and charges of 32 and times of 16 bits
pub record Addable (doors charges times : List ℕ) (n : ℕ) (sums : List ℕ) : Type 0 where
  pub size : length sums ≡ max_doors
  pub few : n ≤ max_rules
  pub on_door : (i : ℕ) → i < n → get_or doors i 0 < max_doors
  pub sum : (i : ℕ) → i < n → get_or sums (get_or doors i 0) 0 < 2 ^ 32
  pub charge : (i : ℕ) → i < n → get_or charges i 0 < 2 ^ 32
  pub often : (i : ℕ) → i < n → get_or times i 0 < 2 ^ 16

-- what charging asks: places for the doors and the rules, rules on these doors, and works and charges of 32 bits
pub record Chargeable (works doors charges : List ℕ) (n rules : ℕ) (sums : List ℕ) : Type 0 where
  pub size : length sums ≡ max_doors
  pub few_doors : n ≤ max_doors
  pub few_rules : rules ≤ max_rules
  pub on_door : (i : ℕ) → i < rules → get_or doors i 0 < n
  pub work : (d : ℕ) → d < n → get_or works d 0 < 2 ^ 32
  pub charge : (i : ℕ) → i < rules → get_or charges i 0 < 2 ^ 32

-- ---- of a sheet

-- r has the receivers of the pairs whose sender is in K
abbrev pub Waiting : Sheet → ℕ → ℕ → Type 0
Waiting S K r = (j : ℕ) → member r j ≡ any_below S.pairs (λ i. member K (S.sender i) && eqb (S.receiver i) j)

-- what opening a list asks: some sheet that the numbers read here are of, an essential list of it, and who waits for its tasks
pub record Opening (S : Sheet) (x : Numbers) (K r : ℕ) : Type 0 where
  pub workable : Workable S
  pub counts : CountsOf S x.counts
  pub list : K < 2 ^ S.tasks
  pub ess : essential S K ≡ true
  pub waiting : Waiting S K r
  pub change : ChangesOf S x.tasks.change
  pub set : SetsOf S x.tasks.doors
  pub work : WorksOf S x.doors.work
  pub rules : RulesOf S x.rules.door x.rules.watched x.rules.least x.rules.most x.rules.charge

-- what a list has once it is open: its load, the doors whose task can come first, and at the front of the sums, for each door, its work and its charges
pub record Opened (S : Sheet) (K weight set : ℕ) (before after : List ℕ) : Type 0 where
  pub load : weight ≡ nat_abs (load S K)
  pub doors : (d : ℕ) → member set d ≡ (ltb d S.doors && can_come_first S K (S.task d))
  pub sums : after ≡ overwrite (map_below S.doors (λ d. S.work d + charges S K d)) before
