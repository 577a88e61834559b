-- The whole table: its lists are one answer, and how they move with the threads.
use Rattle.std.proofs.Common.{ℕ, ◌≡◌, ◌+◌, ◌<◌, true, false, eqb, None, Some, List, [], ◌∷◌, ◌++◌, length, get_or, set, map, refl, sym, ◌∙◌, inl, inr, subst, arith}
use Rattle.std.specs.Prelude.{position}
use Rattle.std.specs.List.{IsDistinct, range_with_len}
use Rattle.std.proofs.lemmas.Bool.{false≢true, cases_eq, cases_lt, lt-ltb, le-ltb, false_from_ne_true}
use Rattle.std.proofs.lemmas.List.{ext_get_or, length-map, length-set, get_or-map, get_or-set_same, get_or-set_other, get_or_past}
use Rattle.std.proofs.lemmas.List.FromFn.{get_or-map-range_with_len, length-map-range_with_len}
use Rattle.std.proofs.lemmas.List.Sums.{position_or_len_is}
use Rattle.index_list.specs.Listing.{IsProper, stands_in, others}
use Rattle.index_list.specs.Threads.{Threads, Chain, IsFree, IsHome, Tied, walk, lists_in}
use Rattle.index_list.proofs.Members.{stands_in-pushed, stands_in-last, stands_in-others}
use Rattle.index_list.proofs.Chains.{Pushed, Removed, chain-home, chain-distinct, chain-length, chain-kept, chain-pushed, chain-removed, walk-chain}

-- the lists that the threads give are these
pub tied-lists : (t : Threads) (nodes lists : ℕ) (v : List (List ℕ)) → Tied t nodes lists v → lists_in t.next nodes lists ≡ v
tied-lists t nodes lists v tied =
    let f : ℕ → List ℕ = λ k. walk t.next nodes nodes (t.next (nodes + k)) in
    let long = length-map-range_with_len f 0 lists in
    ext_get_or [] (map f (range_with_len 0 lists)) v (long ∙ sym tied.count) (λ k h.
    let l : k < lists = omega arith in
    let c = tied.chains k l in
    get_or-map-range_with_len f 0 lists k k [] l (omega arith)
    ∙ walk-chain t nodes k (nodes + k) (get_or v k []) (nodes + k) nodes c (omega arith) (chain-length t nodes k (nodes + k) (get_or v k []) (nodes + k) c))

-- a node that stands on a list is at home there
pub tied-home : (t : Threads) (nodes lists : ℕ) (v : List (List ℕ)) → Tied t nodes lists v → (k q : ℕ) → stands_in q (get_or v k []) ≡ true → (k < lists) × (q < nodes) × (t.home q ≡ k)
tied-home t nodes lists v tied k q e =
    elim (cases_lt k lists) [
      | inl l ↦
          let h = chain-home t nodes k (nodes + k) (get_or v k []) (nodes + k) q (tied.chains k l) e in
          (l, h.0, h.1)
      | inr l ↦
          let n : length v ≡ lists = tied.count in
          let e' : stands_in q [] ≡ true = (rw (get_or_past v k [] (omega arith)) at e) in
          absurd (false≢true e')
    ]

-- no list has a node that is on none
pub free-nowhere : (t : Threads) (nodes lists : ℕ) (v : List (List ℕ)) → Tied t nodes lists v → (q : ℕ) → IsFree t q → (k : ℕ) → stands_in q (get_or v k []) ≡ false
free-nowhere t nodes lists v tied q free k =
    false_from_ne_true (stands_in q (get_or v k [])) (λ e.
    let h = tied-home t nodes lists v tied k q e in
    let l = h.0 in
    let s = h.2 in
    let f = free.home in
    let r = tied.room in
    omega arith)

-- the list that a node is on, as a caller says it
pub free-none : (t : Threads) (nodes lists : ℕ) (v : List (List ℕ)) → Tied t nodes lists v → (q : ℕ) → IsFree t q → position (stands_in q) v ≡ None
free-none t nodes lists v tied q free =
    let e = position_or_len_is (stands_in q) v (length v) [] (omega arith) (λ k _. free-nowhere t nodes lists v tied q free k) (λ h. absurd (omega arith)) in
    rw e (rw (le-ltb (length v) (length v) (omega arith)) refl)

pub home-some : (t : Threads) (nodes lists : ℕ) (v : List (List ℕ)) → Tied t nodes lists v → (q : ℕ) → IsHome t v q → position (stands_in q) v ≡ Some (t.home q)
home-some t nodes lists v tied q home =
    let l = home.in_range in
    let e = position_or_len_is (stands_in q) v (t.home q) [] (omega arith)
    (λ k h. false_from_ne_true (stands_in q (get_or v k [])) (λ s.
    let w = (tied-home t nodes lists v tied k q s).2 in
    omega arith))
    (λ _. home.stands) in
    rw e (rw (lt-ltb (t.home q) (length v) l) refl)

distinct-none : IsDistinct eqb []
unfolding IsDistinct
distinct-none = tt

-- what the lists of a table are like
pub tied-proper : (t : Threads) (nodes lists : ℕ) (v : List (List ℕ)) → Tied t nodes lists v → IsProper (record { nodes = nodes; lists = v })
tied-proper t nodes lists v tied = record {
  once = λ k. elim (cases_lt k lists) [
    | inl l ↦ chain-distinct t nodes k (nodes + k) (get_or v k []) (nodes + k) (tied.chains k l)
    | inr l ↦ let n : length v ≡ lists = tied.count in rw (get_or_past v k [] (omega arith)) distinct-none
  ];
  alone = λ j k q e f. sym (tied-home t nodes lists v tied j q e).2 ∙ (tied-home t nodes lists v tied k q f).2;
  known = λ k q e. (tied-home t nodes lists v tied k q e).1;
}

-- a node came to the back of a list
pub tied-pushed : (t u : Threads) (nodes lists : ℕ) (v : List (List ℕ)) (list node : ℕ) → Tied t nodes lists v → list < lists → node < nodes → IsFree t node → Pushed t u list (nodes + list) node → Tied u nodes lists (set v list (get_or v list [] ++ node ∷ []))
tied-pushed t u nodes lists v list node tied ll ln free m =
    let now : List ℕ = get_or v list [] ++ node ∷ [] in
    let n : length v ≡ lists = tied.count in
    let k : length (set v list now) ≡ length v = length-set v list now in
    let out = free-nowhere t nodes lists v tied node free in
    record {
      count = k ∙ n;
      room = tied.room;
      chains = λ j l.
          let far : nodes + j ≡ node → ⊥ = λ s. absurd (omega arith) in
          elim (cases_eq j list) [
            | inl s ↦
                let C : ℕ → Type 0 = λ i. Chain u nodes i (nodes + i) (get_or (set v list now) i []) (nodes + i) in
                subst C (sym s) (rw (get_or-set_same v list now [] (omega arith))
                (chain-pushed t u nodes list (nodes + list) node m (omega arith) ln (nodes + list) (get_or v list []) (λ e. absurd (omega arith)) (out list) (tied.chains list ll)))
            | inr s ↦
                rw (get_or-set_other v list j now [] s)
                (chain-kept t u nodes j node (λ q. q ≡ nodes + list → ⊥) m.keeps (λ q h e. absurd (omega arith)) (nodes + j) (get_or v j []) (nodes + j) far (out j) far (λ e. s (omega arith)) (tied.chains j l))
          ];
      homes = λ q l.
          elim (cases_eq q node) [
            | inl s ↦ inr (let H : ℕ → Type 0 = λ i. IsHome u (set v list now) i in subst H (sym s) record {
              in_range = rw m.home (omega arith);
              stands = rw m.home (rw (get_or-set_same v list now [] (omega arith)) (stands_in-last node (get_or v list [])));
            })
            | inr s ↦
                let same = m.keeps.home q s in
                elim (tied.homes q l) [
                  | inl f ↦ inl record { home = same ∙ f.home }
                  | inr h ↦
                      let r = h.in_range in
                      inr record {
                        in_range = rw same (omega arith);
                        stands = rw same (elim (cases_eq (t.home q) list) [
                          | inl e ↦ rw (e, get_or-set_same v list now [] (omega arith)) (stands_in-pushed q node (get_or v list []) (rw e at h.stands))
                          | inr e ↦ rw (get_or-set_other v list (t.home q) now [] e) h.stands
                        ]);
                      }
                ]
          ];
    }

-- a node left its list
pub tied-removed : (t u : Threads) (nodes lists : ℕ) (v : List (List ℕ)) (node : ℕ) → Tied t nodes lists v → node < nodes → Removed t u node → Tied u nodes lists (map (others node) v)
tied-removed t u nodes lists v node tied ln m =
    let n : length v ≡ lists = tied.count in
    let k : length (map (others node) v) ≡ length v = length-map v (others node) in
    record {
      count = k ∙ n;
      room = tied.room;
      chains = λ j l.
          let far : nodes + j ≡ node → ⊥ = λ s. absurd (omega arith) in
          rw (get_or-map (others node) v j [] [] (omega arith))
          (chain-removed t u nodes j node m (nodes + j) (get_or v j []) (nodes + j) far far (tied.chains j l));
      homes = λ q l.
          elim (cases_eq q node) [
            | inl s ↦ inl (let F : ℕ → Type 0 = λ i. IsFree u i in subst F (sym s) m.left)
            | inr s ↦
                let same = m.keeps.home q s in
                elim (tied.homes q l) [
                  | inl f ↦ inl record { home = same ∙ f.home }
                  | inr h ↦
                      let r = h.in_range in
                      inr record {
                        in_range = rw same (omega arith);
                        stands = rw same (rw (get_or-map (others node) v (t.home q) [] [] (omega arith)) (stands_in-others q node (get_or v (t.home q) []) (λ e. s (sym e)) ∙ h.stands));
                      }
                ]
          ];
    }

-- the lists that the threads give are their own
pub tied-self : (t : Threads) (nodes lists : ℕ) (v : List (List ℕ)) → Tied t nodes lists v → Tied t nodes lists (lists_in t.next nodes lists)
tied-self t nodes lists v tied =
    let P : List (List ℕ) → Type 0 = λ w. Tied t nodes lists w in
    subst P (sym (tied-lists t nodes lists v tied)) tied
