-- What a slab of accounts says of the clients after one of its slots changed.
use Rattle.std.proofs.Common.{◌≡◌, ◌≢◌, ℕ, ◌+◌, ◌-◌, ◌≤◌, leb, true, false, List, [], ◌∷◌, Option, Some, None, is_some, IsSome, IfSome, cond, count_by, option_map, refl, sym, ap, subst, ◌∙◌, inl, inr, arith, rules}
use Rattle.std.proofs.lemmas.Bool.{cases_Bool}
use Rattle.std.proofs.lemmas.List.Sums.{sum_by-cons}
use Rattle.slab.specs.Slab.{Slab, get, slab_len, Updates, with_value, ContainsKey}
use Rattle.slab.proofs.SlabLemmas.{Updates-with_value}
use Rattle.store_api.specs.Holdings.{Account, put, or_else, no_account}
use Rattle.store_api.specs.declared.mem_store.account.MemAccount.{MemAccount}
use Rattle.store_api.specs.MemAccounts.{slot_sum, weight_of, seen_account, clients_of, account_at, reserved}
use Rattle.store_api.proofs.Puts.{puts}
use Rattle.store_api.proofs.Totals.{slot_sum-updates, weight-at-most}

at_or_above : (q : ℕ) → leb 2 q ≡ true → (q - 2) + 2 ≡ q
at_or_above q above = grind (arith, rules)

above_two : (key : ℕ) → leb 2 (key + 2) ≡ true
above_two key = grind (arith, rules)

module _ (old new : Slab MemAccount) (key : ℕ) (slot : Option MemAccount) (u : Updates old new key slot) where
  here : clients_of new (key + 2) ≡ option_map seen_account slot
  here =
      let back : key + 2 - 2 ≡ key = omega arith in
      rw (above_two key, back, u.changed) refl

  there : (q : ℕ) → q ≢ key + 2 → clients_of new q ≡ clients_of old q
  there q apart =
      elim (cases_Bool (leb 2 q)) [
        | inl above ↦
            let away : q - 2 ≢ key = λ e. apart (sym (at_or_above q above) ∙ ap (λ n. n + 2) e) in
            rw (above, u.others (q - 2) away) refl
        | inr below ↦ rw below refl
      ]

  -- the one client changed, and no other
  pub seen-updates : clients_of new ≡ put (key + 2) (option_map seen_account slot) (clients_of old)
  seen-updates = puts (clients_of old) (clients_of new) (key + 2) (option_map seen_account slot) here there

  -- and so did what the clients have reserved together
  pub reserved-updates : reserved new + weight_of (λ a. a.reservation) (get old key) ≡ reserved old + weight_of (λ a. a.reservation) slot
  reserved-updates = slot_sum-updates (λ a. a.reservation) old new key slot u

count-slot_sum : {X : Type 0} (xs : List (Option X)) → count_by is_some xs ≡ slot_sum (λ x. 1) xs
count-slot_sum [] = refl
count-slot_sum (None ∷ rest) = omega (arith, count-slot_sum rest, sum_by-cons (λ o. cond (is_some o) 1 0) None rest)
count-slot_sum (Some x ∷ rest) = omega (arith, count-slot_sum rest, sum_by-cons (λ o. cond (is_some o) 1 0) (Some x) rest)

one_if : {X : Type 0} (o : Option X) → IsSome o → weight_of (λ x. 1) o ≡ 1
one_if (Some x) some = refl
one_if None some = absurd (cc)

-- a write leaves as many values
pub len-write : {X : Type 0} (s : Slab X) (key : ℕ) (value : X) → ContainsKey s key → slab_len (with_value s key value) ≡ slab_len s
len-write s key value there =
    let both = slot_sum-updates (λ x. 1) s (with_value s key value) key (Some value) (Updates-with_value s key value there) in
    let was : weight_of (λ x. 1) (get s key) ≡ 1 = one_if (get s key) there in
    let a = count-slot_sum s.slots in
    let b = count-slot_sum (with_value s key value).slots in
    omega (arith, both, was, a, b)

-- one client's account was written
pub record Written (old new : Slab MemAccount) (key : ℕ) (account : MemAccount) : Type 0 where
  pub clients : clients_of new ≡ put (key + 2) (Some (seen_account account)) (clients_of old)
  pub reserved : reserved new + weight_of (λ a. a.reservation) (get old key) ≡ reserved old + account.reservation
  pub len : slab_len new ≡ slab_len old

pub written : (s : Slab MemAccount) (key : ℕ) (account : MemAccount) → ContainsKey s key → Written s (with_value s key account) key account
written s key account there =
    let u = Updates-with_value s key account there in
    record {
      clients = seen-updates s (with_value s key account) key (Some account) u;
      reserved = reserved-updates s (with_value s key account) key (Some account) u;
      len = len-write s key account there;
    }

pub if_weighs : (o : Option MemAccount) (a b : ℕ) → a + weight_of (λ (x : MemAccount). x.reservation) o ≡ b → IfSome o (λ was. a + was.reservation ≡ b)
if_weighs None a b e = tt
if_weighs (Some was) a b e = e

weighed : (o : Option MemAccount) → (or_else no_account (option_map seen_account o)).reservation ≡ weight_of (λ (x : MemAccount). x.reservation) o
weighed None = refl
weighed (Some a) = refl

-- a client's reservation is at most what all have reserved together
pub within_reserved : (slab : Slab MemAccount) (t : ℕ) → IsSome (clients_of slab t) → (account_at t slab).reservation ≤ reserved slab
within_reserved slab t some =
    elim (cases_Bool (leb 2 t)) [
      | inl above ↦
          let is : (account_at t slab).reservation ≡ weight_of (λ (x : MemAccount). x.reservation) (get slab (t - 2)) = rw above (weighed (get slab (t - 2))) in
          let most = weight-at-most (λ (x : MemAccount). x.reservation) slab.slots (t - 2) in
          omega (arith, is, most)
      | inr below ↦
          let none : clients_of slab t ≡ None = rw below refl in
          let wrong : false ≡ true = subst (λ (o : Option Account). IsSome o) none some in
          absurd (cc)
    ]
