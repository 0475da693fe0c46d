-- The leasts over the doors passed, which a row has in floats, two doors more with each pass. Assumes nothing.
use Rattle.model.proofs.Basics.{◌≡◌, refl, sym, ap, ap₂, ◌∙◌, List, ◌++◌, ℕ, zero, suc, ◌+◌, ◌-◌, ◌*◌, ◌≤◌, ◌<◌, add-zero, min, arith}
use Rattle.model.proofs.Basics.{length, get_or, take, drop, replicate, length-append, get_or-replicate, get_or-take, length-take, List·getD-append, drop-append_seam}
use Rattle.model.proofs.Tools.Tests.{by_last}
use lib.ListN.{length-drop}
use lib.Seq.{get_or-drop, drop-drop}
use lib.Ieee.{Float, nan}
use Rattle.minimum.specs.Floats.{Holds}
use Rattle.kernel_sheet.specs.declared.Way.{Way}
use Rattle.kernel_row.specs.Leasts.{no_cost, least_below, nth_way, through_gathered, least_from, Gathered}
use Rattle.kernel_row.specs.Held.{Held, Column}

-- ---- the least of some numbers

pub least_cong : (n : ℕ) (f g : ℕ → ℕ) → ((i : ℕ) → i < n → f i ≡ g i) → least_below n f ≡ least_below n g
least_cong zero f g h = refl
least_cong (suc n) f g h = ap₂ min (least_cong n f g (λ i l. h i (omega arith))) (h n (omega arith))

-- the least with one door more, taken twice, or with two
two_passed : (f : ℕ → ℕ) (n k : ℕ) → 0 < k → k ≤ 2 → min (min (least_below n f) (f (n + 0))) (f (n + (k - 1))) ≡ least_below (n + k) f
two_passed f n k some few = by_last (k - 1) 1 (omega arith)
    (λ w. let e : k ≡ 2 = omega arith in let z : n + 2 ≡ suc (suc n) = omega arith in let o : n + 1 ≡ suc n = omega arith in rw (e, z, o, add-zero) refl)
    (λ w. let e : k ≡ 1 = omega arith in let o : n + 1 ≡ suc n = omega arith in rw (e, o, add-zero) (omega arith))

-- ---- a column, as the code takes it

abbrev pub column_at : List ℕ → ℕ → ℕ → List ℕ
column_at columns at n = take n (take (length columns - at) (drop at columns))

column_entry : (columns : List ℕ) (at n p : ℕ) → at + n ≤ length columns → p < n → get_or (column_at columns at n) p 0 ≡ get_or columns (at + p) 0
column_entry columns at n p room l =
    get_or-take n _ p 0 l ∙ get_or-take (length columns - at) (drop at columns) p 0 (omega arith) ∙ get_or-drop at columns p 0

column_length : (columns : List ℕ) (at n : ℕ) → at + n ≤ length columns → length (column_at columns at n) ≡ n
column_length columns at n room = omega (arith, length-take n (take (length columns - at) (drop at columns)), length-take (length columns - at) (drop at columns), length-drop at columns)

-- ---- the leasts

-- where some doors are left, the doors before them are passed
pub record Passed (columns : List ℕ) (P load : ℕ) (ways left : List Way) (leasts : List Float) : Type 0 where
  pub few : length left ≤ length ways
  pub last : left ≡ drop (length ways - length left) ways
  pub held : Held (λ p. least_below (length ways - length left) (through_gathered columns load ways p)) P leasts

module _ {columns : List ℕ} {P load : ℕ} {ways : List Way} (h : Gathered columns P load ways) where
  -- the i-th door
  module _ (i : ℕ) (l : i < length ways) where
    abbrev from : ℕ
    from = (nth_way ways i).begin

    cost_is : (p : ℕ) → p < P → get_or (column_at columns from P) p 0 * load + (nth_way ways i).part ≡ through_gathered columns load ways p i
    unfolding through_gathered
    cost_is p k = rw (column_entry columns from P p (h.column i l) k) refl

    pub column_of : Column P (column_at columns from P) load (nth_way ways i).part
    column_of = record {
      size = column_length columns from P (h.column i l);
      wide = λ p k. rw (column_entry columns from P p (h.column i l) k) (h.wide p i k l);
      fits = λ p k. rw (cost_is p k) (h.fits p i k l);
    }

  -- before the first door
  pub none_passed : (left : List Way) (n : ℕ) (x : Float) → left ≡ ways → P ≤ n → Holds x no_cost → Passed columns P load ways left (replicate n x)
  none_passed left n x q few e = record {
    few = rw q (omega arith);
    last = let z : length ways - length ways ≡ 0 = omega arith in rw (q, z) refl;
    held = λ p l.
        let z : length ways - length ways ≡ 0 = omega arith in
        rw (q, z, get_or-replicate n p x nan (omega arith)) e;
  }

  -- two doors more, or the last one: they are cut off the doors that are left
  module _ {left : List Way} (fewer : length left ≤ length ways) (end : left ≡ drop (length ways - length left) ways) (pair rest : List Way) (cut : left ≡ pair ++ rest) (size : length pair ≡ min 2 (length left)) (some : 0 < length left) where
    abbrev passed : ℕ
    passed = length ways - length left

    long : length left ≡ length pair + length rest
    long = ap length cut ∙ length-append pair rest

    pair_at : (k : ℕ) → k < length pair → nth_way pair k ≡ nth_way ways (passed + k)
    pair_at k l = sym (List·getD-append pair rest _ k l) ∙ ap (λ (ys : List Way). nth_way ys k) (sym cut ∙ end) ∙ get_or-drop passed ways k _

    pub column_of_pair : (k : ℕ) → k < length pair → Column P (column_at columns (nth_way pair k).begin P) load (nth_way pair k).part
    column_of_pair k l = rw (pair_at k l) (column_of (passed + k) (omega (arith, long, fewer)))

    cost_of_pair : (k : ℕ) → k < length pair → (p : ℕ) → p < P
        → get_or (column_at columns (nth_way pair k).begin P) p 0 * load + (nth_way pair k).part ≡ through_gathered columns load ways p (passed + k)
    cost_of_pair k l p m = rw (pair_at k l) (cost_is (passed + k) (omega (arith, long, fewer)) p m)

    -- `after` is what the code makes of the leasts
    pub pass : (after behind : List Float) → length after ≡ P
        → Held (λ p. min (min (least_below passed (through_gathered columns load ways p)) (get_or (column_at columns (nth_way pair 0).begin P) p 0 * load + (nth_way pair 0).part))
        (get_or (column_at columns (nth_way pair (length pair - 1)).begin P) p 0 * load + (nth_way pair (length pair - 1)).part)) P after
        → Passed columns P load ways rest (after ++ behind)
    pass after behind e g =
        let n : length ways - length rest ≡ passed + length pair = omega (arith, long, fewer) in
        record {
          few = omega (arith, long, fewer);
          last = sym (drop-append_seam pair rest) ∙ ap (drop (length pair)) (sym cut ∙ end) ∙ drop-drop (length pair) passed ways ∙ ap (λ (m : ℕ). drop m ways) (sym n);
          held = λ p q. rw (
            List·getD-append after behind nan p (omega arith),
            n,
            ← two_passed (through_gathered columns load ways p) passed (length pair) (omega (arith, size)) (omega (arith, size)),
            ← cost_of_pair 0 (omega (arith, size)) p q,
            ← cost_of_pair (length pair - 1) (omega (arith, size)) p q,
          ) (g p q);
        }

  -- none is left
  pub all_passed : {left : List Way} {leasts : List Float} → Passed columns P load ways left leasts → length left ≡ 0 → Held (least_from columns load ways) P leasts
  unfolding least_from
  all_passed {left = left} H e = let n : length ways ≡ length ways - length left = omega arith in rw n H.held

-- the leasts by themselves, as they are lent
pub front_leasts : (f : ℕ → ℕ) (P n : ℕ) (leasts : List Float) → n ≡ P → Held f P leasts → Held f n (take P leasts)
front_leasts f P n leasts e g p l = let m : p < P = omega (arith, e) in rw (get_or-take P leasts p nan m) (g p m)
