-- What a session keeps of failures, from one entry to the next.
use Rattle.std.proofs.Common.{◌≡◌, ◌≢◌, ℕ, ◌==◌, ◌⊎◌, true, false, if◌then◌else◌, Option, Some, None, option_map, List, [], ◌∷◌, ◌++◌, length, refl, ap, sym, ◌∙◌, subst, inl, inr}
use Rattle.std.specs.Ordering.{nat_cmp}
use Rattle.std.specs.Option.{option_or}
use Rattle.std.specs.FinMap.{FinMap, get, insert, remove}
use Rattle.reservation_tree.proofs.Maps.{get_same, get_other, removed_same, removed_other, same_or_other}
use Rattle.pool_model.specs.declared.entry.Entry.{Entry}
use Rattle.pool_model.specs.State.{Session, Sessions, State, shown}
use Rattle.pool_model.specs.Owning.{IsClientOf}
use Rattle.pool_model.specs.Failures.{fails, is_for_own, forgets}
use Rattle.pool_model.specs.Parts.{with_failures, without_tracker, keep_first}
use Rattle.pool_model.proofs.Seats.{some_is}
use Rattle.pool_model.proofs.Windows.{first_by, forgotten, quiet, failed}

-- where failures changed in one session, each session is the same or is that one
pub changed_session : (change : FinMap nat_cmp ℕ → FinMap nat_cmp ℕ) (maker : ℕ) (old : Sessions) (m : ℕ) (y : Session) → get (with_failures change maker old) m ≡ Some y
    → ((m ≢ maker) × (get old m ≡ Some y)) ⊎ ((m ≡ maker) × (x : Session) × (get old m ≡ Some x) × (record x { failures = change x.failures } ≡ y))
changed_session change maker old m y =
    elim (get old maker) as (λ o. get old maker ≡ o → get (elim o [ None ↦ old | Some z ↦ insert old maker (record z { failures = change z.failures }) ]) m ≡ Some y
    → ((m ≢ maker) × (get old m ≡ Some y)) ⊎ ((m ≡ maker) × (x : Session) × (get old m ≡ Some x) × (record x { failures = change x.failures } ≡ y))) [
      | None ↦ λ is there. inl (λ same. let none : None ≡ Some y = sym is ∙ ap (get old) (sym same) ∙ there in cc, there)
      | Some z ↦ λ is there. elim (same_or_other m maker) [
        | inl here ↦ inr (
          here,
          z,
          ap (get old) here ∙ is,
          some_is _ y (sym (get_same old maker (record z { failures = change z.failures })) ∙ ap (get (insert old maker (record z { failures = change z.failures }))) (sym here) ∙ there),
        )
        | inr other ↦ inl (other, sym (get_other old maker (record z { failures = change z.failures }) m other) ∙ there)
      ]
    ] refl

-- and where a tracker went
pub left_session : (maker t : ℕ) (old : Sessions) (m : ℕ) (y : Session) → get (without_tracker maker t old) m ≡ Some y
    → ((m ≢ maker) × (get old m ≡ Some y)) ⊎ ((m ≡ maker) × (x : Session) × (get old m ≡ Some x) × (record x { failures = remove x.failures t } ≡ y))
left_session maker t old m y =
    elim (get old maker) as (λ o. get old maker ≡ o → get (elim o [ None ↦ old | Some z ↦ if z.query == t then remove old maker else insert old maker (record z { failures = remove z.failures t }) ]) m ≡ Some y
    → ((m ≢ maker) × (get old m ≡ Some y)) ⊎ ((m ≡ maker) × (x : Session) × (get old m ≡ Some x) × (record x { failures = remove x.failures t } ≡ y))) [
      | None ↦ λ is there. inl (λ same. let none : None ≡ Some y = sym is ∙ ap (get old) (sym same) ∙ there in cc, there)
      | Some z ↦ λ is. elim (z.query == t) as (λ b. get (if b then remove old maker else insert old maker (record z { failures = remove z.failures t })) m ≡ Some y
          → ((m ≢ maker) × (get old m ≡ Some y)) ⊎ ((m ≡ maker) × (x : Session) × (get old m ≡ Some x) × (record x { failures = remove x.failures t } ≡ y))) [
            | true ↦ λ there. elim (same_or_other m maker) [
              | inl here ↦ let none : None ≡ Some y = sym (removed_same old maker) ∙ ap (get (remove old maker)) (sym here) ∙ there in cc
              | inr other ↦ inl (other, sym (removed_other old maker m other) ∙ there)
            ]
            | false ↦ λ there. elim (same_or_other m maker) [
              | inl here ↦ inr (
                here,
                z,
                ap (get old) here ∙ is,
                some_is _ y (sym (get_same old maker (record z { failures = remove z.failures t })) ∙ ap (get (insert old maker (record z { failures = remove z.failures t }))) (sym here) ∙ there),
              )
              | inr other ↦ inl (other, sym (get_other old maker (record z { failures = remove z.failures t }) m other) ∙ there)
            ]
          ]
    ] refl

pub first_kept : (k n : ℕ) (failures : FinMap nat_cmp ℕ) → get (keep_first k n failures) k ≡ option_or (get failures k) (Some n)
first_kept k n failures =
    elim (get failures k) as (λ o. get failures k ≡ o → get (elim o [ None ↦ insert failures k n | Some first ↦ failures ]) k ≡ option_or o (Some n)) [
      | None ↦ λ is. get_same failures k n
      | Some j ↦ λ is. is
    ] refl

pub others_kept : (k n : ℕ) (failures : FinMap nat_cmp ℕ) (c : ℕ) → c ≢ k → get (keep_first k n failures) c ≡ get failures c
others_kept k n failures c apart =
    elim (get failures k) as (λ o. get (elim o [ None ↦ insert failures k n | Some first ↦ failures ]) c ≡ get failures c) [
      | None ↦ get_other failures k n c apart
      | Some j ↦ refl
    ]

pub shown_or : (g f : Option ℕ) (n : ℕ) → g ≡ option_map shown f → option_or g (Some (shown n)) ≡ option_map shown (option_or f (Some n))
shown_or g None n is = ap (λ (o : Option ℕ). option_or o (Some (shown n))) is
shown_or g (Some j) n is = ap (λ (o : Option ℕ). option_or o (Some (shown n))) is

-- what a session keeps: numbers for its clients alone, and those that the history tells
pub record Keeps (all h : List Entry) (s : State) (m : ℕ) (x : Session) : Type 0 where
  pub kept : (c j : ℕ) → get x.failures c ≡ Some j → IsClientOf s m c
  pub noted : (c : ℕ) → get x.failures c ≡ option_map shown (first_by all m c h)

module _ (all h : List Entry) (s new : State) (e : Entry) (m : ℕ) where
  -- nothing is forgotten and nothing fails
  pub calm : (x : Session) → Keeps all h s m x → ((c : ℕ) → IsClientOf s m c → IsClientOf new m c)
      → ((c : ℕ) → forgets m c e ≡ false) → ((c : ℕ) → fails (is_for_own m c) all e.event ≡ false) → Keeps all (h ++ e ∷ []) new m x
  calm x old still goes_on fine = record {
    kept = λ c j is. still c (old.kept c j is);
    noted = λ c. old.noted c ∙ ap (option_map shown) (sym (quiet all m c h e (goes_on c) (fine c)));
  }

  -- nothing is kept, and nothing is told any more
  pub cleared : (x : Session) → ((c : ℕ) → get x.failures c ≡ None) → ((c : ℕ) → forgets m c e ≡ true) → ((c : ℕ) → fails (is_for_own m c) all e.event ≡ false)
      → Keeps all (h ++ e ∷ []) new m x
  cleared x none forgot fine = record {
    kept = λ c j is. let no : None ≡ Some j = sym (none c) ∙ is in cc;
    noted = λ c. none c ∙ ap (option_map shown) (sym (forgotten all m c h e (forgot c) (fine c)));
  }

  -- one tracker is forgotten
  pub but_one : (x y : Session) (t : ℕ) → Keeps all h s m x → get y.failures t ≡ None → ((c : ℕ) → c ≢ t → get y.failures c ≡ get x.failures c)
      → ((c : ℕ) → c ≢ t → IsClientOf s m c → IsClientOf new m c) → ((c : ℕ) → c ≡ t → forgets m c e ≡ true) → ((c : ℕ) → c ≢ t → forgets m c e ≡ false)
      → ((c : ℕ) → fails (is_for_own m c) all e.event ≡ false) → Keeps all (h ++ e ∷ []) new m y
  but_one x y t old none same still forgot goes_on fine = record {
    kept = λ c j is. elim (same_or_other c t) [
      | inl here ↦ let no : None ≡ Some j = sym none ∙ ap (get y.failures) (sym here) ∙ is in cc
      | inr other ↦ still c other (old.kept c j (sym (same c other) ∙ is))
    ];
    noted = λ c. elim (same_or_other c t) [
      | inl here ↦ ap (get y.failures) here ∙ none ∙ ap (option_map shown) (sym (forgotten all m c h e (forgot c here) (fine c)))
      | inr other ↦ same c other ∙ old.noted c ∙ ap (option_map shown) (sym (quiet all m c h e (goes_on c other) (fine c)))
    ];
  }

  -- a failure on a page of this client is noted
  pub one_noted : (x : Session) (k n : ℕ) → Keeps all h s m x → n ≡ shown (length h) → IsClientOf new m k → ((c : ℕ) → IsClientOf s m c → IsClientOf new m c)
      → ((c : ℕ) → forgets m c e ≡ false) → ((c : ℕ) → c ≡ k → fails (is_for_own m c) all e.event ≡ true) → ((c : ℕ) → c ≢ k → fails (is_for_own m c) all e.event ≡ false)
      → Keeps all (h ++ e ∷ []) new m (record x { failures = keep_first k n x.failures })
  one_noted x k n old number client still goes_on fault fine = record {
    kept = λ c j is. elim (same_or_other c k) [
      | inl here ↦ subst (IsClientOf new m) (sym here) client
      | inr other ↦ still c (old.kept c j (sym (others_kept k n x.failures c other) ∙ is))
    ];
    noted = λ c. elim (same_or_other c k) [
      | inl here ↦
          ap (get (keep_first k n x.failures)) here ∙ first_kept k n x.failures
          ∙ ap (λ (o : Option ℕ). option_or o (Some n)) (ap (get x.failures) (sym here) ∙ old.noted c)
          ∙ ap (λ (i : ℕ). option_or (option_map shown (first_by all m c h)) (Some i)) number
          ∙ shown_or (option_map shown (first_by all m c h)) (first_by all m c h) (length h) refl
          ∙ ap (option_map shown) (sym (failed all m c h e (goes_on c) (fault c here)))
      | inr other ↦ others_kept k n x.failures c other ∙ old.noted c ∙ ap (option_map shown) (sym (quiet all m c h e (goes_on c) (fine c other)))
    ];
  }
