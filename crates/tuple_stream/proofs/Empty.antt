-- A stream without rows, as it is made, and one whose pages all went.
use Rattle.std.proofs.Common.{◌≡◌, ◌≢◌, ◌∙◌, ℕ, ◌+◌, List, [], Option, Some, None, IsSome, option_map, refl, ap, subst, sym, arith}
use Rattle.std.specs.List.{sum_by}
use Rattle.std.proofs.lemmas.List.Elements.{All-nil}
use Rattle.std.proofs.lemmas.Option.{none-some}
use Rattle.store_api.specs.Tokens.{PageToken}
use Rattle.store_api.specs.Holdings.{Holdings, LiveLoan, LivePage}
use Rattle.store_api.specs.Conditions.{IsBlockCount}
use Rattle.store_api.specs.Alike.{AlikeButClients}
use Rattle.tuple_stream.specs.Streamed.{Streamed}
use Rattle.tuple_stream.specs.Streams.{IsApart, IsAtEnd, IsOwnPage, IsShaped, HasRows}
use Rattle.tuple_stream.specs.Touches.{Touches, slots_of}

abbrev pub empty : ℕ → Streamed
empty blocks = record { page_blocks = blocks; pages = []; pinned = None; spent = 0; used = 0; count = 0 }

pub empty_shaped : (t blocks : ℕ) (s : Streamed) (h : Holdings) → s ≡ empty blocks → IsBlockCount blocks → IsShaped t s h
empty_shaped t blocks s h is sized =
    subst (λ (r : Streamed). IsShaped t r h) (sym is)
    (record {
      sized = sized;
      apart = tt;
      own = All-nil (IsOwnPage t blocks h);
      pins = λ place p there. absurd (none-some p there);
      opened = tt;
      begins = λ none. (refl, refl);
    })

pub empty_shows : (blocks : ℕ) (s : Streamed) (h : Holdings) → s ≡ empty blocks → HasRows [] s h
empty_shows blocks s h is =
    subst (λ (r : Streamed). HasRows [] r h) (sym is)
    (record {
      are = refl;
      counted = refl;
      filled = λ place p there. absurd (none-some p there);
      each = All-nil _;
      packed = tt;
    })

pub empty_at_end : (blocks : ℕ) (s : Streamed) → s ≡ empty blocks → IsAtEnd s
empty_at_end blocks s is = subst IsAtEnd (sym is) (λ some. absurd (omega (arith, some)))

same_pages : (old new : Option LivePage) → (IsSome old → new ≡ old) → (IsSome new → old ≡ new) → new ≡ old
same_pages None None there back = refl
same_pages None (Some page) there back = sym (back refl)
same_pages (Some page) new there back = there refl

same_slots : (old new : Option ℕ) → option_map (λ free. free + 0) new ≡ option_map (λ free. free + 0) old → new ≡ old
same_slots None None same = refl
same_slots None (Some n) same = absurd cc
same_slots (Some o) None same = absurd cc
same_slots (Some o) (Some n) same = let slots : n + 0 ≡ o + 0 = cc in ap Some (omega (arith, slots))

-- a stream that had no pages and has none left all as it was but its client's account
pub nothing_left : (t : ℕ) (s now : Streamed) (old new : Holdings) → s.pages ≡ [] → now.pages ≡ [] → Touches t s now old new → AlikeButClients old new
nothing_left t s now old new was is touches =
    let none : (q : ℕ) → IsApart q s.pages = λ q. subst (IsApart q) (sym was) (All-nil (λ p. p.name ≢ q)) in
    let still : (q : ℕ) → IsApart q now.pages = λ q. subst (IsApart q) (sym is) (All-nil (λ p. p.name ≢ q)) in
    record {
      block_len = touches.block_len;
      session = touches.session;
      query = touches.query;
      limit = touches.limit;
      live_clients = touches.live_clients;
      free_slots = same_slots old.free_slots new.free_slots
          (ap (λ (pages : List PageToken). option_map (λ free. free + sum_by (slots_of now new) pages) new.free_slots) (sym is)
          ∙ touches.slots
          ∙ ap (λ (pages : List PageToken). option_map (λ free. free + sum_by (slots_of s old) pages) old.free_slots) was);
      told = touches.told;
      pages = λ q. same_pages (old.pages q) (new.pages q) (λ lives. (touches.pages q lives (none q)).0) (λ lives. (touches.back q lives (still q)).0);
      loans = λ q. ap (λ (loans : ℕ → Option LiveLoan). loans q) touches.loans;
    }
