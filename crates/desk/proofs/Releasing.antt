-- What a clearing is made of after a release.
use Rattle.std.proofs.Common.{◌≡◌, ℕ, cond, ap, ◌∙◌}
use Rattle.clearing.specs.Book.{Book, can_release}
use Rattle.clearing.specs.Makeup.{Makeup, shown, returned, released_in}

-- the book is what the make-up shows, so it says whether lots are released
pub release_inside : (m after : Makeup) (b : Book) (p n : ℕ) → b ≡ shown m → after ≡ cond (can_release b p n) (returned m p n) m → after ≡ released_in m p n
release_inside m after b p n shows is = is ∙ ap (λ (c : Book). cond (can_release c p n) (returned m p n) m) shows
