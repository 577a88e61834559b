use Rattle.std.proofs.Common.{rules, ◌≡◌, ℕ, ◌≤◌, length, refl, subst}
use Rattle.std.proofs.lemmas.Option.{slice_get_read}
use Rattle.store_api.specs.Holdings.{unused_of}
use Rattle.tuple_stream.specs.Streamed.{len_in}
use Rattle.tuple_stream.proofs.Pinning.{IsPin, one_client, resting_page}
use Rattle.tuple_stream.proofs.PinnedPage.{pinned_went, unpinned_went}
use Rattle.tuple_stream.proofs.stream.Stream.pin_at.Goals as goal

pub pin-requires-clause-rests : goal.pin-requires-clause-rests
pin-requires-clause-rests g c =
    resting_page c.requires.stream.0 c.args.self.now (g.St.Store.holds c.args.store.now) c.args.place c.index.result.now c.requires.stream.1 c.requires.closed
    (slice_get_read c.args.self.now.pages (length c.args.self.now.pages) c.args.place c.index.result.now refl c.requires.inside (search rules))

pub returns-clause-went : goal.returns-clause-went
returns-clause-went g c = λ t is.
    let old = g.St.Store.holds c.args.store.now in
    let s = c.args.self.now in
    let pin : IsPin s (record { place = c.args.place; buf = c.in_ok-buf.buf }) c.index.result.now old (g.St.Store.holds c.pin.new.self) =
    record {
      closed = c.requires.closed;
      at = slice_get_read s.pages (length s.pages) c.args.place c.index.result.now refl c.requires.inside (search rules);
      shows = c.in_ok-buf.ensures.bytes;
      pinned = c.in_ok-buf.ensures.ok;
    } in
    let one : c.requires.stream.0 ≡ t = one_client t c.requires.stream.0 s old c.args.place c.index.result.now is c.requires.stream.1 pin.at in
    let room : len_in s old ≤ unused_of t old = subst (λ (n : ℕ). len_in s old ≤ unused_of n old) one c.requires.stream.2 in
    pinned_went is pin _ _ old.session _ _ c.set_pinned.ensures c.requires.inside room c.in_ok-buf.ensures.entries c.pin.ensures.grows

pub returns-in_err-buf-clause-went : goal.returns-in_err-buf-clause-went
returns-in_err-buf-clause-went g c = λ t is.
    unpinned_went t c.args.place c.args.self.now _ _ _ c.index.result.now.name _ (g.St.Store.signs c.args.store.now) (g.St.Store.signs c.pin.new.self) is c.requires.closed c.in_err-buf.ensures.err c.pin.ensures.grows
