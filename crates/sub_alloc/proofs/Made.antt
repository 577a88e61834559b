-- A new suballocator, and its sizes.
use Rattle.std.proofs.Common.{◌≡◌, ℕ, suc, ◌+◌, ◌-◌, ◌*◌, ◌/◌, ◌<◌, ◌≤◌, ◌^◌, ◌==◌, IsTrue, List, [], ◌∷◌, get_or, length, map, replicate, cond, Option, None, Some, IsSome, ap, sym, ◌∙◌, subst, inl, inr, arith}
use Rattle.std.specs.Prelude.{is_some}
use Rattle.std.specs.List.{count_by, list_any}
use Rattle.std.proofs.lemmas.Nat.{pow-add, pow_below}
use Rattle.std.proofs.lemmas.Bool.{cases_lt, false≢true}
use Rattle.std.proofs.lemmas.Bool.Decides.{eqb_tells}
use Rattle.std.proofs.lemmas.List.{get_or-replicate, get_or_past, length-replicate}
use Rattle.std.proofs.lemmas.List.Folds.{sum_by-replicate}
use Rattle.index_list.specs.Listing.{Listing, empty, list_with, nodes_on, stands_in}
use Rattle.index_list.proofs.Places.{stands-from_list}
use Rattle.block_arena.specs.Blocks.{IsBlockLen}
use Rattle.block_arena.proofs.Powers.{same_power}
use Rattle.store_api.specs.Conditions.{IsBlockCount, IsIdle}
use Rattle.store_api.specs.Holdings.{Holdings, account_of, unused_of}
use Rattle.store_api.specs.Tokens.{LoanToken}
use Rattle.sub_alloc.specs.Pieces.{Division, buffer, buffer_len, either, free_at, live_at, marked, places, size_at}
use Rattle.sub_alloc.specs.Tiling.{IsNew, IsWhole}
use Rattle.sub_alloc.specs.Lending.{IsAllocOf}
use Rattle.sub_alloc.proofs.Tiles.{is_none, none_some}

-- ---- a buffer has a power of two of places

any_power : (powers : List ℕ) (n : ℕ) → IsTrue (list_any (λ k. k == n) (map (λ k. 2 ^ k) powers)) → (k : ℕ) × (n ≡ 2 ^ k)
any_power [] n is = absurd (false≢true is)
any_power (k ∷ ks) n is =
    elim (eqb_tells (2 ^ k) n) [
      | inl this ↦ (k, sym this.1)
      | inr other ↦ any_power ks n (let rest : IsTrue (list_any (λ k. k == n) (map (λ k. 2 ^ k) ks)) = rw other.0 at is in rest)
    ]

any_long : (powers : List ℕ) (n : ℕ) → IsTrue (list_any (λ k. k == n) (map (λ k. 64 * 2 ^ k) powers)) → (k : ℕ) × (n ≡ 64 * 2 ^ k)
any_long [] n is = absurd (false≢true is)
any_long (k ∷ ks) n is =
    elim (eqb_tells (64 * 2 ^ k) n) [
      | inl this ↦ (k, sym this.1)
      | inr other ↦ any_long ks n (let rest : IsTrue (list_any (λ k. k == n) (map (λ k. 64 * 2 ^ k) ks)) = rw other.0 at is in rest)
    ]

pub record HasPlaces (blocks len : ℕ) : Type 0 where
  pub power : ℕ
  pub places : blocks * len / 64 ≡ 2 ^ power
  pub whole : blocks * len ≡ 64 * (blocks * len / 64)

pub has_places : (blocks len : ℕ) → IsBlockCount blocks → IsBlockLen len → HasPlaces blocks len
has_places blocks len sized long =
    let many = any_power (0 ∷ 1 ∷ 2 ∷ 3 ∷ 4 ∷ 5 ∷ 6 ∷ 7 ∷ 8 ∷ []) blocks sized in
    let each = any_long (0 ∷ 1 ∷ 2 ∷ 3 ∷ 4 ∷ 5 ∷ 6 ∷ 7 ∷ 8 ∷ 9 ∷ 10 ∷ []) len long in
    let sum = pow-add 2 many.0 each.0 in
    let all : blocks * len ≡ 64 * 2 ^ (many.0 + each.0) =
    ap (λ (n : ℕ). n * len) many.1 ∙ ap (λ (n : ℕ). 2 ^ many.0 * n) each.1
    ∙ (let e : 2 ^ many.0 * (64 * 2 ^ each.0) ≡ 64 * (2 ^ many.0 * 2 ^ each.0) = omega arith in e) ∙ ap (λ (n : ℕ). 64 * n) (sym sum)
    in
    let part : blocks * len / 64 ≡ 2 ^ (many.0 + each.0) = omega (arith, all) in
    record { power = many.0 + each.0; places = part; whole = omega (arith, all, part) }

-- what the logarithm says
pub log_is : (k r n : ℕ) → n ≡ 2 ^ k → 2 ^ r ≤ n → n < 2 * 2 ^ r → 2 ^ r ≡ n
log_is = same_power

pub log_small : (r : ℕ) → 2 ^ r ≤ 16384 → r ≤ 14
log_small r l = elim (cases_lt 14 r) [ inl h ↦ absurd (let p = pow_below 14 r h in omega (arith, p, l)) | inr h ↦ h ]

-- ---- nothing is there

pub nothing_on : (nodes lists n : ℕ) → list_with n (empty nodes lists) ≡ None
nothing_on nodes lists n =
    is_none (list_with n (empty nodes lists)) (λ k there.
    let s = stands-from_list (empty nodes lists) n k there in
    let none : nodes_on k (empty nodes lists) ≡ [] =
    elim (cases_lt k lists) [
      | inl l ↦ get_or-replicate lists k [] [] l
      | inr l ↦ get_or_past (replicate lists []) k [] (let m = length-replicate {A = List ℕ} lists [] in omega (arith, m, l))
    ]
    in
    false≢true (sym (ap (stands_in n) none) ∙ s.1))

pub zero_at : (many n : ℕ) → ◌≡◌ {A = ℕ} (get_or (replicate many 0) n 0) 0
zero_at many n =
    elim (cases_lt n many) [
      | inl l ↦ get_or-replicate many n 0 0 l
      | inr l ↦ get_or_past (replicate many 0) n 0 (let m = length-replicate {A = ℕ} many 0 in omega (arith, m, l))
    ]

pub shut_at : (many u : ℕ) → ◌≡◌ {A = Option LoanToken} (get_or (replicate many None) u None) None
shut_at many u =
    elim (cases_lt u many) [
      | inl l ↦ get_or-replicate many u None None l
      | inr l ↦ get_or_past (replicate many None) u None (let m = length-replicate {A = Option LoanToken} many None in omega (arith, m, l))
    ]

-- ---- of a new one

module _ (d : Division) (b blocks many : ℕ) (new : IsNew b blocks many d) where
  pub all_shut : (u : ℕ) → buffer u d ≡ None
  all_shut u = ap (λ (bufs : List (Option LoanToken)). get_or bufs u None) new.buffers ∙ shut_at many u

  none_free : (n : ℕ) → free_at d n ≡ None
  none_free n = ap (list_with n) new.free ∙ nothing_on (many * places d) d.classes n

  none_live : (n : ℕ) → live_at d n ≡ None
  none_live n = ap (λ (xs : List ℕ). marked (get_or xs n 0)) new.live ∙ ap marked (zero_at (many * places d) n)

  none_there : (n : ℕ) → size_at d n ≡ None
  none_there n = ap (λ (x : Option ℕ). either x (live_at d n)) (none_free n) ∙ none_live n

  pub new_whole : 0 < d.classes → d.classes ≤ 15 → IsBlockCount blocks → many ≤ 64 → IsWhole d
  new_whole some few sized bufs =
      let count : length d.buffers ≡ many = ap (λ (xs : List (Option LoanToken)). length xs) new.buffers ∙ length-replicate {A = Option LoanToken} many None in
      record {
        sized = record {
          some = some;
          few = few;
          blocks = subst IsBlockCount (sym new.page_blocks) sized;
          len = ap (λ (n : ℕ). n * d.block_len) new.page_blocks ∙ ap (λ (n : ℕ). blocks * n) new.block_len ∙ sym new.len;
          bufs = omega (arith, count, bufs);
          nodes = ap (λ (t : Listing). t.nodes) new.free ∙ ap (λ (n : ℕ). n * places d) (sym count);
          lists = ap (λ (t : Listing). length t.lists) new.free ∙ length-replicate {A = List ℕ} d.classes [];
          marks = ap (λ (xs : List ℕ). length xs) new.live ∙ length-replicate {A = ℕ} (many * places d) 0 ∙ ap (λ (n : ℕ). n * places d) (sym count);
        };
        tiled = record {
          tiles = record {
            short = λ c n h. none_some (size_at d n) c (none_there n) h;
            aligned = λ c n h. none_some (size_at d n) c (none_there n) h;
            within = λ c n h. none_some (size_at d n) c (none_there n) h;
            apart = λ c e m n h g l. none_some (size_at d m) c (none_there m) h;
            cover = λ u i opened l. absurd (false≢true (subst IsSome (all_shut u) opened));
          };
          merged = record {
            halves = λ c r low high. none_some (free_at d (r * 2 ^ suc c)) c (none_free (r * 2 ^ suc c)) low;
            whole = λ n h. none_some (free_at d n) (d.classes - 1) (none_free n) h;
          };
          single = λ n c h. none_live n;
        };
        loans = λ u loan h. no_loan (buffer u d) loan (all_shut u) h;
      }
    where
      no_loan : {P : Type 0} (o : Option LoanToken) (x : LoanToken) → o ≡ None → o ≡ Some x → P
      no_loan o x none some = cc

  pub new_of : (t : ℕ) (h : Holdings) → IsSome (h.clients t) → d.block_len ≡ h.block_len → IsIdle t h → unused_of t h ≡ (account_of t h).reservation → IsAllocOf t h d
  new_of t h lives len idle even =
      let none : count_by is_some d.buffers ≡ 0 =
      ap (count_by is_some) new.buffers ∙ sum_by-replicate (λ (x : Option LoanToken). cond (is_some x) 1 0) many None ∙ (let e : many * 0 ≡ 0 = omega arith in e)
      in
      record {
        lives = lives;
        block_len = len;
        own = λ u loan stands. no_loan (buffer u d) loan (all_shut u) stands;
        apart = λ u v loan other stands there same. no_loan (buffer u d) loan (all_shut u) stands;
        pages = idle.pages;
        only = λ q lent stands whose. absurd (idle.loans q lent stands whose);
        charge = ap (λ (k : ℕ). unused_of t h + k * buffer_len d) none ∙ (let e : unused_of t h + 0 * buffer_len d ≡ unused_of t h = omega arith in e) ∙ even;
      }
    where
      no_loan : {P : Type 0} (o : Option LoanToken) (x : LoanToken) → o ≡ None → o ≡ Some x → P
      no_loan o x none some = cc
