-- The first page of a stream ends.
use Rattle.std.proofs.Common.{◌≡◌, ◌≢◌, ℕ, suc, ◌+◌, ◌*◌, ◌-◌, ◌==◌, Bool, true, false, List, ◌∷◌, length, slice_index_or, Option, Some, None, IsSome, IfSome, is_some, option_map, if◌then◌else◌, refl, ap, ap₂, sym, ◌∙◌, subst, subst₂, inl, inr, arith, eq-eqb, ne_eqb, true≢false}
use Rattle.std.specs.List.{sum_by}
use Rattle.std.proofs.lemmas.Bool.{cases_eq}
use Rattle.std.proofs.lemmas.List.Elements.{All-cons, All-head, All-tail}
use Rattle.std.proofs.lemmas.List.Sums.{sum_by-cons}
use Rattle.store_api.specs.Tokens.{PageToken}
use Rattle.store_api.specs.Holdings.{Account, LivePage, Holdings, put, no_account, or_else, no_page, account_of, page_of, unused_of, page_len}
use Rattle.store_api.specs.Changes.{after_destroy}
use Rattle.store_api.specs.Conditions.{IsHeld, Fits}
use Rattle.store_api.proofs.Puts.{put_here, put_there}
use Rattle.tuple_stream.specs.Streamed.{OpenPage, Streamed, len_in}
use Rattle.tuple_stream.specs.Streams.{IsOwnPage, IsOpen, IsShaped, pins_at}
use Rattle.tuple_stream.specs.Touches.{Touches, slots_of, with_unused}
use Rattle.tuple_stream.proofs.Chosen.{at_place}
use Rattle.tuple_stream.proofs.Sums.{sum_same}
use Rattle.tuple_stream.specs.Ending.{HasPages, first_buf, behind_first}

same_test : (a b c d : ℕ) → (a ≡ b → c ≡ d) → (c ≡ d → a ≡ b) → (a == b) ≡ (c == d)
same_test a b c d to from =
    elim (cases_eq a b) [
      | inl e ↦ eq-eqb a b e ∙ sym (eq-eqb c d (to e))
      | inr ne ↦ ne_eqb a b ne ∙ sym (ne_eqb c d (λ e. ne (from e)))
    ]

pins_behind : (o : Option OpenPage) (place : ℕ) → pins_at o (suc place) ≡ pins_at (behind_first o) place
pins_behind None place = refl
pins_behind (Some page) place =
    elim (cases_eq page.place 0) [
      | inl e ↦ rw (eq-eqb page.place 0 e, ne_eqb (suc place) page.place (omega arith)) refl
      | inr ne ↦ rw (ne_eqb page.place 0 ne, same_test (suc place) page.place place (page.place - 1) (λ e. omega arith) (λ e. omega arith)) refl
    ]

-- what the first page is charged goes, and no more
held_behind : (o : Option OpenPage) (len : ℕ) → pins_at o 0 * len + (if is_some (behind_first o) then len else 0) ≡ (if is_some o then len else 0)
held_behind None len = omega arith
held_behind (Some page) len =
    elim (cases_eq page.place 0) [
      | inl e ↦ rw (eq-eqb page.place 0 e, eq-eqb 0 page.place (sym e)) (omega arith)
      | inr ne ↦ rw (ne_eqb page.place 0 ne, ne_eqb 0 page.place (λ e. ne (sym e))) (omega arith)
    ]

charged_less : (o : Option Account) (n : ℕ) → IsSome o → Some (record (or_else no_account o) { unused = (or_else no_account o).unused + n }) ≡ option_map (with_unused ((or_else no_account o).unused + n)) o
charged_less None n some = absurd (true≢false (sym some))
charged_less (Some account) n some = refl

slots_less : (has : Bool) (blocks own sum now : ℕ) (free : Option ℕ) → blocks ≡ own → now ≡ sum → option_map (λ n. n + now) (if has then option_map (λ n. n + blocks) free else free) ≡ option_map (λ n. n + ((if has then own else 0) + sum)) free
slots_less true blocks own sum now None e same = refl
slots_less true blocks own sum now (Some n) e same = ap Some (omega (arith, e, same))
slots_less false blocks own sum now None e same = refl
slots_less false blocks own sum now (Some n) e same = ap Some (omega (arith, same))

first_held : (p : PageToken) (h : Holdings) (s : Streamed) (o : Option OpenPage) → (page_of p.name h).pins ≡ pins_at o 0 → (page_of p.name h).blocks ≡ s.page_blocks → IfSome o (IsOpen s h) → IsHeld p h (first_buf o)
first_held p h s None pins blocks opened = pins
first_held p h s (Some page) pins blocks opened =
    elim (cases_eq page.place 0) [
      | inl e ↦
          let once : (page_of p.name h).pins ≡ 1 = pins ∙ rw (eq-eqb 0 page.place (sym e)) refl in
          rw (eq-eqb page.place 0 e) (omega (arith, once), subst (λ (n : ℕ). Fits n h page.buf) (sym blocks) opened.fits)
      | inr ne ↦ rw (ne_eqb page.place 0 ne) (pins ∙ rw (ne_eqb 0 page.place (λ e. ne (sym e))) refl)
    ]

opened_behind : (s now : Streamed) (h new : Holdings) (o : Option OpenPage) → length s.pages ≡ suc (length now.pages) → now.page_blocks ≡ s.page_blocks → new.block_len ≡ h.block_len → IfSome o (IsOpen s h) → IfSome (behind_first o) (IsOpen now new)
opened_behind s now h new None len blocks block_len opened = tt
opened_behind s now h new (Some page) len blocks block_len opened =
    elim (cases_eq page.place 0) [
      | inl e ↦ rw (eq-eqb page.place 0 e) tt
      | inr ne ↦ rw (ne_eqb page.place 0 ne) (record {
        inside = let below = opened.inside in omega arith;
        fits = record {
          blocks = opened.fits.blocks ∙ sym blocks;
          block_len = opened.fits.block_len ∙ sym block_len;
          whole = opened.fits.whole ∙ ap₂ (λ (a b : ℕ). a * b) (sym blocks) (sym block_len);
        };
      })
    ]

module _ (t : ℕ) (s : Streamed) (h : Holdings) (p : PageToken) (rest : List PageToken) (has : HasPages t (record s { pages = p ∷ rest }) h) where
  first_own : IsOwnPage t s.page_blocks h p
  first_own = All-head (IsOwnPage t s.page_blocks h) p rest has.own

  pub first_is_held : IsHeld p h (first_buf s.pinned)
  first_is_held = first_held p h (record s { pages = p ∷ rest }) s.pinned (has.pins 0 p refl) first_own.blocks_are has.opened

  same_page : (q : PageToken) → q.name ≢ p.name → (after_destroy p.name h).pages q.name ≡ h.pages q.name
  same_page q apart = put_there p.name q.name None h.pages apart

  pub same_page_of : (q : PageToken) → q.name ≢ p.name → page_of q.name (after_destroy p.name h) ≡ page_of q.name h
  same_page_of q apart = ap (or_else no_page) (same_page q apart)

  own_kept : (q : PageToken) → q.name ≢ p.name → IsOwnPage t s.page_blocks h q → IsOwnPage t s.page_blocks (after_destroy p.name h) q
  own_kept q apart own =
      record {
        page = record {
          lives = ap is_some (same_page q apart) ∙ own.page.lives;
          key = ap (λ (page : LivePage). page.key) (same_page_of q apart) ∙ own.page.key;
          client = ap (λ (page : LivePage). page.client) (same_page_of q apart) ∙ own.page.client;
        };
        client = own.client;
        blocks_are = ap (λ (page : LivePage). page.blocks) (same_page_of q apart) ∙ own.blocks_are;
      }

  pub first_gone : HasPages t (record s { pages = rest; pinned = behind_first s.pinned }) (after_destroy p.name h)
  first_gone =
      record {
        apart = has.apart.1;
        own = λ k d below. own_kept (slice_index_or rest k d) (has.apart.0 k d below) (All-tail (IsOwnPage t s.page_blocks h) p rest has.own k d below);
        pins = λ place q at. ap (λ (page : LivePage). page.pins) (same_page_of q (at_place (λ (r : PageToken). r.name ≢ p.name) rest place q has.apart.0 at)) ∙ has.pins (suc place) q at ∙ pins_behind s.pinned place;
        opened = opened_behind (record s { pages = p ∷ rest }) (record s { pages = rest; pinned = behind_first s.pinned }) h (after_destroy p.name h) s.pinned refl refl refl has.opened;
      }

  freed_is : (page_of p.name h).pins * page_len p.name h ≡ pins_at s.pinned 0 * len_in s h
  freed_is = ap₂ (λ (pins blocks : ℕ). pins * (blocks * h.block_len)) (has.pins 0 p refl) first_own.blocks_are

  account_now : (after_destroy p.name h).clients t ≡ Some (record (account_of t h) { unused = unused_of t h + (page_of p.name h).pins * page_len p.name h })
  account_now =
      ap (λ (c : ℕ). put c (Some (record (account_of c h) { unused = unused_of c h + (page_of p.name h).pins * page_len p.name h })) h.clients t) (first_own.page.client ∙ first_own.client)
      ∙ put_here t (Some (record (account_of t h) { unused = unused_of t h + (page_of p.name h).pins * page_len p.name h })) h.clients

  unused_now : unused_of t (after_destroy p.name h) ≡ unused_of t h + (page_of p.name h).pins * page_len p.name h
  unused_now = ap (λ (o : Option Account). (or_else no_account o).unused) account_now

  pub first_touches : Touches t (record s { pages = p ∷ rest }) (record s { pages = rest; pinned = behind_first s.pinned }) h (after_destroy p.name h)
  first_touches =
      record {
        block_len = refl;
        session = refl;
        query = refl;
        limit = refl;
        reservation = refl;
        room = refl;
        above = refl;
        live_clients = refl;
        loans = refl;
        told = refl;
        clients = λ q apart. put_there (page_of p.name h).client q (Some (record (account_of (page_of p.name h).client h) { unused = unused_of (page_of p.name h).client h + (page_of p.name h).pins * page_len p.name h })) h.clients (λ e. apart (e ∙ first_own.page.client ∙ first_own.client));
        account = λ lives. account_now ∙ charged_less (h.clients t) ((page_of p.name h).pins * page_len p.name h) lives ∙ ap (λ (n : ℕ). option_map (with_unused n) (h.clients t)) (sym unused_now);
        pages = λ q some apart. (put_there p.name q None h.pages (λ e. All-head (λ (r : PageToken). r.name ≢ q) p rest apart (sym e)), All-tail (λ (r : PageToken). r.name ≢ q) p rest apart);
        back = λ q some apart. elim (cases_eq q p.name) [
          | inl e ↦ absurd (true≢false (sym some ∙ ap is_some (ap (put p.name None h.pages) e ∙ put_here p.name None h.pages)))
          | inr ne ↦ (sym (put_there p.name q None h.pages ne), All-cons (λ (r : PageToken). r.name ≢ q) p rest (λ e. ne (sym e)) apart)
        ];
        unused = omega (arith, unused_now, freed_is, held_behind s.pinned (len_in s h));
        slots =
            slots_less (page_of p.name h).has_slots (page_of p.name h).blocks s.page_blocks (sum_by (slots_of s h) rest) (sum_by (slots_of s (after_destroy p.name h)) rest) h.free_slots first_own.blocks_are
            (sum_same (slots_of s h) (slots_of s (after_destroy p.name h)) rest (λ k d below. ap (λ (page : LivePage). if page.has_slots then s.page_blocks else 0) (same_page_of (slice_index_or rest k d) (has.apart.0 k d below))))
            ∙ ap (λ (n : ℕ). option_map (λ free. free + n) h.free_slots) (sym (sum_by-cons (slots_of s h) p rest));
      }

-- a stream has its pages
pub has_pages : (t : ℕ) (s : Streamed) (h : Holdings) → IsShaped t s h → HasPages t s h
has_pages t s h is = record { apart = is.apart; own = is.own; pins = is.pins; opened = is.opened }

-- the same of a stream whose pages begin so
module _ (s : Streamed) (h : Holdings) (p : PageToken) (rest : List PageToken) (starts : s.pages ≡ p ∷ rest) where
  has_so : (t : ℕ) → HasPages t s h → HasPages t (record s { pages = p ∷ rest }) h
  has_so t has = subst (λ (pages : List PageToken). HasPages t (record s { pages = pages }) h) starts has

  pub front_is_held : (t : ℕ) × HasPages t s h → IsHeld p h (first_buf s.pinned)
  front_is_held has = first_is_held has.0 s h p rest (has_so has.0 has.1)

  pub front_gone : (now : Streamed) (new : Holdings) → now ≡ record s { pages = rest; pinned = behind_first s.pinned } → new ≡ after_destroy p.name h → (t : ℕ) → HasPages t s h → HasPages t now new
  front_gone now new is becomes t has = subst₂ (λ (s' : Streamed) (h' : Holdings). HasPages t s' h') (sym is) (sym becomes) (first_gone t s h p rest (has_so t has))

  pub front_touches : (now : Streamed) (new : Holdings) → now ≡ record s { pages = rest; pinned = behind_first s.pinned } → new ≡ after_destroy p.name h → (t : ℕ) → HasPages t s h → Touches t s now h new
  front_touches now new is becomes t has =
      subst₂ (λ (s' : Streamed) (h' : Holdings). Touches t s s' h h') (sym is) (sym becomes)
      (subst (λ (pages : List PageToken). Touches t (record s { pages = pages }) (record s { pages = rest; pinned = behind_first s.pinned }) h (after_destroy p.name h)) (sym starts) (first_touches t s h p rest (has_so t has)))
