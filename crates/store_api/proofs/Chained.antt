-- Calls in a row: what they leave of a store, and what an emitter was given in them.
use Rattle.std.proofs.Common.{◌≡◌, ◌⊎◌, ◌∙◌, ℕ, ◌+◌, ◌<◌, ◌≤◌, List, [], ◌∷◌, ◌++◌, length, Option, Some, None, Result, Ok, Err, OnOk, OnErr, IfErr, IsOk, refl, ap, sym, subst, arith, inl, inr, append-nil, append_assoc}
use Rattle.std.proofs.lemmas.List.{length-append}
use Rattle.pool_model.specs.declared.entry.Entry.{Entry}
use Rattle.pool_model.specs.LookingBack.{names_in}
use Rattle.row_codec.specs.declared.values.Value.{Value}
use Rattle.store_api.specs.Holdings.{Holdings}
use Rattle.store_api.specs.Alike.{Alike}
use Rattle.store_api.specs.Signs.{Signs, Grows, Entered}
use Rattle.store_api.specs.Emitters.{SameFor, OthersStay, HasClient, KeepsRoom, IsSameEmitter, GrowsBy, CameOf}
use Rattle.store_api.specs.Handing.{HasTaken, HasTakenFront, slots_beside, StandsBeside, Hands, HandsThen, HandsStopped, LeavesStore, LeavesThen}
use Rattle.store_api.specs.declared.op_err.OpErr.{OpErr}
use Rattle.store_api.specs.declared.op_err.OpErr.TheVariants.{Pool, Sink}
use Rattle.store_api.specs.declared.store.Store.{Ghosts as StoreGhosts}
use Rattle.store_api.specs.declared.emit.Emit.{Ghosts as EmitGhosts}
use Rattle.store_api.proofs.Answered.{answered_before}
use Rattle.store_api.proofs.Growing.{grows_trans}
use Rattle.store_api.proofs.Names.{names_both}
use Rattle.store_api.proofs.Reserved.{alike_on}

-- ---- what is as before

pub same_then : (t : ℕ) (a b c : Holdings) → SameFor t a b → SameFor t b c → SameFor t a c
same_then t a b c first second =
    record {
      account = second.account ∙ first.account;
      pages = λ q page own. (
        (λ lives. (first.pages q page own).0 ((second.pages q page own).0 lives)),
        (λ lives. (second.pages q page own).1 ((first.pages q page own).1 lives)),
      );
      loans = λ q loan own. (
        (λ lives. (first.loans q loan own).0 ((second.loans q loan own).0 lives)),
        (λ lives. (second.loans q loan own).1 ((first.loans q loan own).1 lives)),
      );
    }

alike_then : (a b c : Holdings) → Alike a b → Alike b c → Alike a c
alike_then a b c first second =
    record {
      rest = alike_on a b c first.rest second.rest;
      reservation = second.reservation ∙ first.reservation;
      room = second.room ∙ first.room;
      above = second.above ∙ first.above;
      clients = λ q. second.clients q ∙ first.clients q;
    }

pub others_then : (client : Option ℕ) (a b c : Holdings) → OthersStay client a b → OthersStay client b c → OthersStay client a c
others_then client a b c first second =
    record {
      block_len = second.block_len ∙ first.block_len;
      session = second.session ∙ first.session;
      query = second.query ∙ first.query;
      limit = second.limit ∙ first.limit;
      live_clients = second.live_clients ∙ first.live_clients;
      told = second.told ∙ first.told;
      reservation = let one = first.reservation in let two = second.reservation in omega (arith, one, two);
      others = λ u other. same_then u a b c (first.others u other) (second.others u other);
      alone = λ none. alike_then a b c (first.alone none) (second.alone none);
    }

pub keeps_then : (client : Option ℕ) (a b c : Holdings) → KeepsRoom client a b → KeepsRoom client b c → KeepsRoom client a c
keeps_then None a b c one two = tt
keeps_then (Some t) a b c one two = omega (arith, one, two)

-- ---- what only grows

names_then : (c0 c1 c2 : ℕ) (a b c : Option (List Entry)) → Entered (λ more. c0 + length (names_in more) ≤ c1) a b → Entered (λ more. c1 + length (names_in more) ≤ c2) b c
    → Entered (λ more. c0 + length (names_in more) ≤ c2) a c
names_then c0 c1 c2 None b c first second = subst (λ (o : Option (List Entry)). Entered (λ more. c1 + length (names_in more) ≤ c2) o c) first second
names_then c0 c1 c2 (Some before) b c first second =
    let next : Entered (λ more. c1 + length (names_in more) ≤ c2) (Some (before ++ first.0)) c = subst (λ (o : Option (List Entry)). Entered (λ more. c1 + length (names_in more) ≤ c2) o c) first.1 second in
    let sum : length (names_in (first.0 ++ next.0)) ≡ length (names_in first.0) + length (names_in next.0) = ap length (names_both first.0 next.0) ∙ length-append (names_in first.0) (names_in next.0) in
    (first.0 ++ next.0, next.1 ∙ ap Some (append_assoc before first.0 next.0), omega (arith, sum, first.2, next.2))

grows_by_then : (client : Option ℕ) (c0 c1 c2 : ℕ) (a b c : Signs) → GrowsBy client c0 c1 a b → GrowsBy client c1 c2 b c → GrowsBy client c0 c2 a c
grows_by_then client c0 c1 c2 a b c one two =
    record {
      grows = grows_trans a b c one.grows two.grows;
      alone = λ none. two.alone none ∙ one.alone none;
      pages = names_then c0 c1 c2 a.trail b.trail c.trail one.pages two.pages;
    }

came_behind : (f0 f1 f2 : ℕ) (a b c : Signs) (e : OpErr) → f0 ≤ f1 → Grows a b → CameOf f1 f2 b c e → CameOf f0 f2 a c e
came_behind f0 f1 f2 a b c (Pool e) less grows came = answered_before e a b c grows came
came_behind f0 f1 f2 a b c Sink less grows came = λ below. let rose : f1 < f2 = came below in omega (arith, rose, less)

same_emitter_then : (a0 a1 a2 : List Value → Type 0) (c0 c1 c2 : Option ℕ) (m0 m1 m2 : List (List Value) → ℕ) → IsSameEmitter a0 a1 c0 c1 m0 m1 → IsSameEmitter a1 a2 c1 c2 m1 m2 → IsSameEmitter a0 a2 c0 c2 m0 m2
same_emitter_then a0 a1 a2 c0 c1 c2 m0 m1 m2 one two =
    record {
      admits_same = λ row. (λ is. (two.admits_same row).0 ((one.admits_same row).0 is), λ is. (one.admits_same row).1 ((two.admits_same row).1 is));
      client_same = two.client_same ∙ one.client_same;
      slots_same = λ rows. two.slots_same rows ∙ one.slots_same rows;
    }

-- ---- rows handed to an emitter

module _ {St E : Type 0} (store : StoreGhosts St) (emit : EmitGhosts E St) where
  stands_then : (e0 e1 e2 : E) (s0 s1 s2 : St) → StandsBeside store emit e0 e1 s0 s1 → StandsBeside store emit e1 e2 s1 s2 → StandsBeside store emit e0 e2 s0 s2
  stands_then e0 e1 e2 s0 s1 s2 one two =
      let client : emit.client e1 ≡ emit.client e0 = one.same.client_same in
      record {
        same = same_emitter_then (emit.admits e0) (emit.admits e1) (emit.admits e2) (emit.client e0) (emit.client e1) (emit.client e2) (emit.slots_for e0) (emit.slots_for e1) (emit.slots_for e2) one.same two.same;
        client = subst (λ (o : Option ℕ). HasClient o (store.holds s2)) client two.client;
        others = others_then (emit.client e0) (store.holds s0) (store.holds s1) (store.holds s2) one.others (subst (λ (o : Option ℕ). OthersStay o (store.holds s1) (store.holds s2)) client two.others);
        room = keeps_then (emit.client e0) (store.holds s0) (store.holds s1) (store.holds s2) one.room (subst (λ (o : Option ℕ). KeepsRoom o (store.holds s1) (store.holds s2)) client two.room);
        slots = two.slots ∙ one.slots;
        never_falls = let x = one.never_falls in let y = two.never_falls in omega (arith, x, y);
        grows = grows_by_then (emit.client e0) (emit.creates e0) (emit.creates e1) (emit.creates e2) (store.signs s0) (store.signs s1) (store.signs s2) one.grows
            (subst (λ (o : Option ℕ). GrowsBy o (emit.creates e1) (emit.creates e2) (store.signs s1) (store.signs s2)) client two.grows);
      }

  -- of one row all was taken, or nothing
  pub row_front : (row : List Value) (e0 e1 : E) (s0 s1 : St) (result : Result (Unit {0}) OpErr)
      → OnErr result ((rows : List (List Value)) → HasTaken store emit e0 s0 rows → HasTaken store emit e1 s1 rows ⊎ HasTaken store emit e1 s1 (rows ++ row ∷ []))
      → OnErr result ((taken : List (List Value)) → HasTaken store emit e0 s0 taken → HasTakenFront store emit e1 s1 taken (row ∷ []))
  row_front row e0 e1 s0 s1 (Ok x) came = tt
  row_front row e0 e1 s0 s1 (Err e) came = λ taken took. elim (came taken took) [
    | inl none ↦ ([], row ∷ [], refl, subst (λ (rows : List (List Value)). HasTaken store emit e1 s1 rows) (sym (append-nil taken)) none)
    | inr all ↦ (row ∷ [], [], refl, all)
  ]

  -- what was taken in front of other rows
  front_behind : (e : E) (s : St) (xs ys taken : List (List Value)) → HasTakenFront store emit e s (taken ++ xs) ys → HasTakenFront store emit e s taken (xs ++ ys)
  front_behind e s xs ys taken some = (
    xs ++ some.0,
    some.1,
    ap (λ (rows : List (List Value)). xs ++ rows) some.2 ∙ sym (append_assoc xs some.0 some.1),
    subst (λ (rows : List (List Value)). HasTaken store emit e s rows) (append_assoc taken xs some.0) some.3,
  )

  hands_on : (xs ys : List (List Value)) (e0 e1 e2 : E) (s0 s1 s2 : St) (x : Unit {0}) (second : Result (Unit {0}) OpErr) → Hands store emit xs e0 e1 s0 s1 (Ok x) → Hands store emit ys e1 e2 s1 s2 second → Hands store emit (xs ++ ys) e0 e2 s0 s2 second
  hands_on xs ys e0 e1 e2 s0 s1 s2 x (Ok y) one two =
      record {
        ok = λ taken took. subst (λ (rows : List (List Value)). HasTaken store emit e2 s2 rows) (append_assoc taken xs ys) (two.ok (taken ++ xs) (one.ok taken took));
        err = tt;
        cause = tt;
        stands = stands_then e0 e1 e2 s0 s1 s2 one.stands two.stands;
      }
  hands_on xs ys e0 e1 e2 s0 s1 s2 x (Err e) one two =
      record {
        ok = tt;
        err = λ taken took. front_behind e2 s2 xs ys taken (two.err (taken ++ xs) (one.ok taken took));
        cause = came_behind (emit.faults e0) (emit.faults e1) (emit.faults e2) (store.signs s0) (store.signs s1) (store.signs s2) e one.stands.never_falls one.stands.grows.grows two.cause;
        stands = stands_then e0 e1 e2 s0 s1 s2 one.stands two.stands;
      }

  pub hands_then : HandsThen store emit
  hands_then xs ys e0 e1 e2 s0 s1 s2 (Ok x) second well one two = hands_on xs ys e0 e1 e2 s0 s1 s2 x second one two
  hands_then xs ys e0 e1 e2 s0 s1 s2 (Err e) second well one two = absurd cc

  pub hands_stopped : HandsStopped store emit
  hands_stopped xs ys e0 e1 s0 s1 e one =
      record {
        ok = tt;
        err = λ taken took.
            let some : HasTakenFront store emit e1 s1 taken xs = one.err taken took in
            (some.0, some.1 ++ ys, ap (λ (rows : List (List Value)). rows ++ ys) some.2 ∙ append_assoc some.0 some.1 ys, some.3);
        cause = one.cause;
        stands = one.stands;
      }

-- ---- calls of a client alone

pub leaves_then : {St : Type 0} → (store : StoreGhosts St) → LeavesThen store
leaves_then store t n0 n1 n2 s0 s1 s2 one two =
    record {
      client = two.client;
      others = others_then (Some t) (store.holds s0) (store.holds s1) (store.holds s2) one.others two.others;
      reserved = let x = one.reserved in let y = two.reserved in omega (arith, x, y);
      room = let x = one.room in let y = two.room in omega (arith, x, y);
      slots = two.slots ∙ one.slots;
      grows = grows_trans (store.signs s0) (store.signs s1) (store.signs s2) one.grows two.grows;
    }
