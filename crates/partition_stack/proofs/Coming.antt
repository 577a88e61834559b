-- Streams without rows come behind others, and one goes.
use Rattle.std.proofs.Common.{◌≡◌, ◌≢◌, inl, inr, ℕ, zero, suc, ◌+◌, ◌-◌, ◌≤◌, List, [], ◌∷◌, ◌++◌, length, replicate, refl, sym, subst, arith}
use Rattle.std.specs.List.{sum_by}
use Rattle.std.proofs.lemmas.List.Elements.{All-nil}
use Rattle.std.proofs.lemmas.List.Sums.{sum_by-append, sum_by-cons}
use Rattle.store_api.specs.Conditions.{IsBlockCount}
use Rattle.store_api.specs.Holdings.{Holdings}
use Rattle.store_api.specs.Signs.{Signs}
use Rattle.tuple_stream.specs.Streamed.{Streamed}
use Rattle.tuple_stream.specs.Streams.{HasRows, IsApart}
use Rattle.tuple_stream.specs.Touches.{held}
use Rattle.tuple_stream.specs.Families.{AreDisjoint, AreShaped, ShowAll, family}
use Rattle.tuple_stream.proofs.Chosen.{all_placed}
use Rattle.tuple_stream.proofs.Empty.{empty_shaped, empty_shows}
use Rattle.tuple_stream.proofs.PageLists.{still_at}
use Rattle.partition_stack.specs.Stack.{empty}
use Rattle.partition_stack.specs.Changes.{Owns}
use Rattle.partition_stack.specs.Laws.{SixteenCome, TopGoes}
use Rattle.partition_stack.proofs.Away.{held_front, outside_whole}
use Rattle.partition_stack.proofs.ListPlaces.{front_or_behind, in_front, of_replicate}

none_before : (blocks : ℕ) (a b : Streamed) → b ≡ empty blocks → AreDisjoint a b
none_before blocks a b is = subst (AreDisjoint a) (sym is) (All-nil (λ p. IsApart p.name a.pages))

pub none_after : (blocks : ℕ) (a b : Streamed) → a ≡ empty blocks → AreDisjoint a b
none_after blocks a b is = subst (λ (r : Streamed). AreDisjoint r b) (sym is) (all_placed (λ p. IsApart p.name []) b.pages (λ i p at. All-nil (λ q. q.name ≢ p.name)))

module _ (t blocks n : ℕ) (streams : List Streamed) (h : Holdings) (signs : Signs) (sized : IsBlockCount blocks) where
  pub all_shaped : AreShaped t (family streams h signs) → AreShaped t (family (streams ++ replicate n (empty blocks)) h signs)
  all_shaped shaped =
      record {
        each = λ i s at. elim (front_or_behind streams (replicate n (empty blocks)) i s at) [
          | inl there ↦ shaped.each i s there
          | inr behind ↦ empty_shaped t blocks s h (of_replicate n (empty blocks) (i - length streams) s behind.1) sized
        ];
        apart = λ i j a b differ first second. elim (front_or_behind streams (replicate n (empty blocks)) j b second) [
          | inl there ↦ elim (front_or_behind streams (replicate n (empty blocks)) i a first) [
            | inl here ↦ shaped.apart i j a b differ here there
            | inr behind ↦ none_after blocks a b (of_replicate n (empty blocks) (i - length streams) a behind.1)
          ]
          | inr behind ↦ none_before blocks a b (of_replicate n (empty blocks) (j - length streams) b behind.1)
        ];
      }

  pub none_held : (m : ℕ) → sum_by (λ s. held s h) (replicate m (empty blocks)) ≡ 0
  none_held zero = refl
  none_held (suc m) = let rest = none_held m in let now : sum_by (λ s. held s h) (empty blocks ∷ replicate m (empty blocks)) ≡ held (empty blocks) h + sum_by (λ s. held s h) (replicate m (empty blocks)) = sum_by-cons (λ (s : Streamed). held s h) (empty blocks) (replicate m (empty blocks)) in omega (arith, rest, now)

  all_owned : (lent : ℕ) → Owns t lent (family streams h signs) → Owns t lent (family (streams ++ replicate n (empty blocks)) h signs)
  all_owned lent owns =
      record {
        lives = owns.lives;
        shaped = all_shaped owns.shaped;
        only = λ q page lives outside. owns.only q page lives (λ i s at. outside i s (in_front streams (replicate n (empty blocks)) i s at));
        even =
            let all : sum_by (λ s. held s h) (streams ++ replicate n (empty blocks)) ≡ sum_by (λ s. held s h) streams + sum_by (λ s. held s h) (replicate n (empty blocks)) = sum_by-append (λ s. held s h) streams (replicate n (empty blocks)) in
            let none = none_held n in
            let even = owns.even in
            omega (arith, all, none, even);
      }

  pub all_shown : (rows : ℕ → List (List ℕ)) → ((i : ℕ) → length streams ≤ i → rows i ≡ []) → ShowAll rows (family streams h signs) → ShowAll rows (family (streams ++ replicate n (empty blocks)) h signs)
  all_shown rows none shows = λ i s at. elim (front_or_behind streams (replicate n (empty blocks)) i s at) [
    | inl there ↦ shows i s there
    | inr behind ↦ subst (λ (rs : List (List ℕ)). HasRows rs s h) (sym (none i behind.0)) (empty_shows blocks s h (of_replicate n (empty blocks) (i - length streams) s behind.1))
  ]

pub sixteen_come : SixteenCome
sixteen_come t lent at level p h signs is =
    record {
      owns = all_owned t p.page_blocks 16 p.streams h signs is.sized lent;
      rows = all_shown t p.page_blocks 16 p.streams h signs is.sized;
    }

pub top_goes : TopGoes
top_goes t lent front s h signs none closed =
    record {
      owns = λ owns. record {
        lives = owns.lives;
        shaped = record {
          each = λ i r at. owns.shaped.each i r (still_at front s r i at);
          apart = λ i j a b differ first second. owns.shaped.apart i j a b differ (still_at front s a i first) (still_at front s b j second);
        };
        only = λ q page lives outside. owns.only q page lives (outside_whole front s none q outside);
        even = let same = held_front front s h closed in let even = owns.even in omega (arith, same, even);
      };
      rows = λ rows _ shows i r at. shows i r (still_at front s r i at);
    }
