-- How sums change when one page or one buffer does.
use Rattle.std.proofs.Common.{◌≡◌, ℕ, ◌+◌, ◌≤◌, ◌==◌, Some, ap, arith}
use Rattle.std.specs.FinMap.{get, insert, remove}
use Rattle.reservation_tree.specs.Total.{total, weight_at}
use Rattle.reservation_tree.proofs.Sums.{total-insert, total-remove}
use Rattle.pool_model.specs.Bytes.{bytes_of, only_if}
use Rattle.pool_model.specs.State.{Place, Page, Pages, Buffer, Buffers}
use Rattle.pool_model.specs.Sums.{page_bytes, bytes_in, pages_for, buffers_for, buffer_bytes}

module _ (times : Place → ℕ) (block_len : ℕ) (pages : Pages) (p : ℕ) where
  -- another page comes, in place of what had the name, if anything had it
  pub pages_new : (y : Page) (t : ℕ) → pages_for times block_len (insert pages p y) t ≤ pages_for times block_len pages t + only_if (y.client == t) (page_bytes times block_len y)
  unfolding pages_for
  pages_new y t =
      let w : ℕ → Page → ℕ = λ _ z. only_if (z.client == t) (page_bytes times block_len z) in
      let sum : total w (insert pages p y) + weight_at w p (get pages p) ≡ total w pages + w p y = total-insert w pages p y in
      omega (arith, sum)

  pub bytes_new : (y : Page) → bytes_in times block_len (insert pages p y) ≤ bytes_in times block_len pages + page_bytes times block_len y
  unfolding bytes_in
  bytes_new y =
      let w : ℕ → Page → ℕ = λ _ z. page_bytes times block_len z in
      let sum : total w (insert pages p y) + weight_at w p (get pages p) ≡ total w pages + w p y = total-insert w pages p y in
      omega (arith, sum)

  module _ (x : Page) (is : get pages p ≡ Some x) where
    pub pages_put : (y : Page) (t : ℕ) → pages_for times block_len (insert pages p y) t + only_if (x.client == t) (page_bytes times block_len x)
        ≡ pages_for times block_len pages t + only_if (y.client == t) (page_bytes times block_len y)
    unfolding pages_for
    pages_put y t =
        let w : ℕ → Page → ℕ = λ _ z. only_if (z.client == t) (page_bytes times block_len z) in
        let sum : total w (insert pages p y) + weight_at w p (get pages p) ≡ total w pages + w p y = total-insert w pages p y in
        let old : weight_at w p (get pages p) ≡ w p x = ap (weight_at w p) is in
        omega (arith, sum, old)

    pub bytes_put : (y : Page) → bytes_in times block_len (insert pages p y) + page_bytes times block_len x ≡ bytes_in times block_len pages + page_bytes times block_len y
    unfolding bytes_in
    bytes_put y =
        let w : ℕ → Page → ℕ = λ _ z. page_bytes times block_len z in
        let sum : total w (insert pages p y) + weight_at w p (get pages p) ≡ total w pages + w p y = total-insert w pages p y in
        let old : weight_at w p (get pages p) ≡ w p x = ap (weight_at w p) is in
        omega (arith, sum, old)

    pub pages_gone : (t : ℕ) → pages_for times block_len (remove pages p) t + only_if (x.client == t) (page_bytes times block_len x) ≡ pages_for times block_len pages t
    unfolding pages_for
    pages_gone t = total-remove (λ _ z. only_if (z.client == t) (page_bytes times block_len z)) pages p (Some x) is

    pub bytes_gone : bytes_in times block_len (remove pages p) + page_bytes times block_len x ≡ bytes_in times block_len pages
    unfolding bytes_in
    bytes_gone = total-remove (λ _ z. page_bytes times block_len z) pages p (Some x) is

module _ (block_len : ℕ) (buffers : Buffers) (f : ℕ) where
  pub buffers_new : (y : Buffer) (t : ℕ) → buffers_for block_len (insert buffers f y) t ≤ buffers_for block_len buffers t + only_if (y.client == t) (bytes_of block_len y.blocks)
  unfolding buffers_for
  buffers_new y t =
      let w : ℕ → Buffer → ℕ = λ _ z. only_if (z.client == t) (bytes_of block_len z.blocks) in
      let sum : total w (insert buffers f y) + weight_at w f (get buffers f) ≡ total w buffers + w f y = total-insert w buffers f y in
      omega (arith, sum)

  pub all_new : (y : Buffer) → buffer_bytes block_len (insert buffers f y) ≤ buffer_bytes block_len buffers + bytes_of block_len y.blocks
  unfolding buffer_bytes
  all_new y =
      let w : ℕ → Buffer → ℕ = λ _ z. bytes_of block_len z.blocks in
      let sum : total w (insert buffers f y) + weight_at w f (get buffers f) ≡ total w buffers + w f y = total-insert w buffers f y in
      omega (arith, sum)

  module _ (x : Buffer) (is : get buffers f ≡ Some x) where
    pub all_put : (y : Buffer) → buffer_bytes block_len (insert buffers f y) + bytes_of block_len x.blocks ≡ buffer_bytes block_len buffers + bytes_of block_len y.blocks
    unfolding buffer_bytes
    all_put y =
        let w : ℕ → Buffer → ℕ = λ _ z. bytes_of block_len z.blocks in
        let sum : total w (insert buffers f y) + weight_at w f (get buffers f) ≡ total w buffers + w f y = total-insert w buffers f y in
        let old : weight_at w f (get buffers f) ≡ w f x = ap (weight_at w f) is in
        omega (arith, sum, old)

    pub buffers_gone : (t : ℕ) → buffers_for block_len (remove buffers f) t + only_if (x.client == t) (bytes_of block_len x.blocks) ≡ buffers_for block_len buffers t
    unfolding buffers_for
    buffers_gone t = total-remove (λ _ z. only_if (z.client == t) (bytes_of block_len z.blocks)) buffers f (Some x) is

    pub all_gone : buffer_bytes block_len (remove buffers f) + bytes_of block_len x.blocks ≡ buffer_bytes block_len buffers
    unfolding buffer_bytes
    all_gone = total-remove (λ _ z. bytes_of block_len z.blocks) buffers f (Some x) is
