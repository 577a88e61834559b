-- What calls on a client's streams leave to others.
use Rattle.std.proofs.Common.{◌≡◌, ◌≢◌, ◌∙◌, ℕ, Option, Some, None, IsSome, option_map, refl, ap, sym, subst, arith}
use Rattle.store_api.specs.Alike.{Alike}
use Rattle.store_api.specs.Holdings.{Account, Holdings, LiveLoan, LivePage, or_else, no_account, no_page, account_of, page_of, unused_of}
use Rattle.store_api.specs.Emitters.{OthersStay, SameFor}
use Rattle.store_api.specs.Signs.{Grows, Signs}
use Rattle.store_api.proofs.Growing.{grows_trans}
use Rattle.store_api.proofs.Reserved.{alike_on}
use Rattle.tuple_stream.specs.Streams.{IsOwnPage}
use Rattle.tuple_stream.specs.Touches.{with_unused}
use Rattle.tuple_stream.specs.Families.{AreShaped, Family, IsOutside, TouchesAll}
use Rattle.tuple_stream.proofs.Chosen.{all_placed, at_place}
use Rattle.partition_stack.specs.Leaving.{LeavesOthers}

pub account_reservation : (o : Option Account) (n : ℕ) → (or_else no_account (option_map (with_unused n) o)).reservation ≡ (or_else no_account o).reservation
account_reservation None n = refl
account_reservation (Some account) n = refl

-- a page of another client is none of theirs
outside_of_other : (t u q : ℕ) (f : Family) (page : LivePage) → AreShaped t f → u ≢ t → f.held.pages q ≡ Some page → page.client ≡ u → IsOutside q f.streams
outside_of_other t u q f page shaped other lives client = λ i s there.
    all_placed (λ p. p.name ≢ q) s.pages (λ k p at. λ same.
    let own = at_place (IsOwnPage t s.page_blocks f.held) s.pages k p (shaped.each i s there).own at in
    let one : page_of q f.held ≡ page = ap (or_else no_page) lives in
    other (sym client ∙ sym (ap (λ (r : LivePage). r.client) one) ∙ ap (λ (n : ℕ). (page_of n f.held).client) (sym same) ∙ own.page.client ∙ own.client))

module _ (t : ℕ) (f g : Family) (was : AreShaped t f) (is : AreShaped t g) (touches : TouchesAll t f g) where
  pub same_reservation : IsSome (f.held.clients t) → (account_of t g.held).reservation ≡ (account_of t f.held).reservation
  same_reservation lives = ap (λ (o : Option Account). (or_else no_account o).reservation) (touches.account lives) ∙ account_reservation (f.held.clients t) (unused_of t g.held)

  pub others_stay : OthersStay (Some t) f.held g.held
  others_stay =
      record {
        block_len = touches.block_len;
        session = touches.session;
        query = touches.query;
        limit = touches.limit;
        live_clients = touches.live_clients;
        told = touches.told;
        reservation = let same = touches.reservation in omega (arith, same);
        others = λ u other.
            let apart : u ≢ t = λ same. other (ap Some (sym same)) in
            record {
              account = touches.clients u apart;
              pages = λ q page client. (
                (λ lives. (touches.back q (subst (λ (o : Option LivePage). IsSome o) (sym lives) refl) (outside_of_other t u q g page is apart lives client)).0 ∙ lives),
                (λ lives. (touches.pages q (subst (λ (o : Option LivePage). IsSome o) (sym lives) refl) (outside_of_other t u q f page was apart lives client)).0 ∙ lives),
              );
              loans = λ q loan client. (
                (λ lives. sym (ap (λ (loans : ℕ → Option LiveLoan). loans q) touches.loans) ∙ lives),
                (λ lives. ap (λ (loans : ℕ → Option LiveLoan). loans q) touches.loans ∙ lives),
              );
            };
        alone = λ none. absurd cc;
      }

pub same_then : (t : ℕ) (a b c : Holdings) → SameFor t a b → SameFor t b c → SameFor t a c
same_then t a b c first second =
    record {
      account = second.account ∙ first.account;
      pages = λ q page own. (
        (λ lives. (first.pages q page own).0 ((second.pages q page own).0 lives)),
        (λ lives. (second.pages q page own).1 ((first.pages q page own).1 lives)),
      );
      loans = λ q loan own. (
        (λ lives. (first.loans q loan own).0 ((second.loans q loan own).0 lives)),
        (λ lives. (second.loans q loan own).1 ((first.loans q loan own).1 lives)),
      );
    }

alike_then : (a b c : Holdings) → Alike a b → Alike b c → Alike a c
alike_then a b c first second =
    record {
      rest = alike_on a b c first.rest second.rest;
      reservation = second.reservation ∙ first.reservation;
      room = second.room ∙ first.room;
      above = second.above ∙ first.above;
      clients = λ q. second.clients q ∙ first.clients q;
    }

pub others_then : (client : Option ℕ) (a b c : Holdings) → OthersStay client a b → OthersStay client b c → OthersStay client a c
others_then client a b c first second =
    record {
      block_len = second.block_len ∙ first.block_len;
      session = second.session ∙ first.session;
      query = second.query ∙ first.query;
      limit = second.limit ∙ first.limit;
      live_clients = second.live_clients ∙ first.live_clients;
      told = second.told ∙ first.told;
      reservation = let one = first.reservation in let two = second.reservation in omega (arith, one, two);
      others = λ u other. same_then u a b c (first.others u other) (second.others u other);
      alone = λ none. alike_then a b c (first.alone none) (second.alone none);
    }

pub leaves_both : (t : ℕ) (a b c : Holdings) (first second third : Signs) → LeavesOthers t a b first second → LeavesOthers t b c second third → LeavesOthers t a c first third
leaves_both t a b c first second third one two =
    record {
      others = others_then (Some t) a b c one.others two.others;
      grows = grows_trans first second third one.grows two.grows;
      reserved = let early = one.reserved in let late = two.reserved in omega (arith, early, late);
      room = let early = one.room in let late = two.room in omega (arith, early, late);
    }

-- what calls of streams leave, where the client has pages of them alone
pub touched_leaves : (t : ℕ) (f g : Family) → AreShaped t f → AreShaped t g → TouchesAll t f g → IsSome (f.held.clients t) → Grows f.signs g.signs → LeavesOthers t f.held g.held f.signs g.signs
touched_leaves t f g was is touches lives grows =
    let same = same_reservation t f g was is touches lives in
    let room = touches.room in
    record { others = others_stay t f g was is touches; grows = grows; reserved = omega (arith, same); room = omega (arith, same, room) }
