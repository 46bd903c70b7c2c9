-- What two jobs tell one holder alike.
use Rattle.std.proofs.Common.{◌≡◌, ℕ, List, ◌∙◌, ap, subst, sym}
use Rattle.td_model.specs.Book.{fresh_book}
use Rattle.td_model.specs.Content.{Content, account_in, empty_content}
use Rattle.http_wire.specs.Stream.{Exchange}
use Rattle.td_http.specs.Laws.{TellAlike}
use Rattle.td_http.specs.Serving.{IsServed}
use Rattle.td_http.proofs.Alike.{tell_alike}
use Rattle.td_http.specs.ConnectionLaws.{TellAlikeOver}
use Rattle.td_http.specs.Private.{IsServedOver}
use Rattle.td_http.proofs.ConnectionsAlike.{tell_alike_over}
use Rattle.td_jobs.specs.Desks.{BeginAlike, fresh_books}

-- two streams from contents of one country that have the same of H
pub streams_alike : (country : List ℕ) (H : ℕ) (one other : Content) (es others : List Exchange) (end other_end : Content) → BeginAlike country H one other
    → IsServed one.country (fresh_books one) 0 es end → IsServed other.country (fresh_books other) 0 others other_end → TellAlike country H es others
streams_alike country H one other es others end other_end alike served other_served =
    tell_alike country H (fresh_books one) (fresh_books other) es others end other_end
    (subst (λ (c : List ℕ). IsServed c (fresh_books one) 0 es end) alike.0 served)
    (subst (λ (c : List ℕ). IsServed c (fresh_books other) 0 others other_end) alike.1 other_served) (ap fresh_book alike.2)

-- and two lists of streams
pub lists_alike : (country : List ℕ) (H : ℕ) (one other : Content) (streams others : List (List Exchange)) (end other_end : Content) → BeginAlike country H one other
    → IsServedOver one.country (fresh_books one) streams end → IsServedOver other.country (fresh_books other) others other_end → TellAlikeOver country H streams others
lists_alike country H one other streams others end other_end alike served other_served =
    tell_alike_over country H (fresh_books one) (fresh_books other) streams others end other_end
    (subst (λ (c : List ℕ). IsServedOver c (fresh_books one) streams end) alike.0 served)
    (subst (λ (c : List ℕ). IsServedOver c (fresh_books other) others other_end) alike.1 other_served) (ap fresh_book alike.2)

-- two empty contents of one country have the same
pub empty_alike : (country : List ℕ) (H : ℕ) (one other : Content) → one ≡ empty_content country → other ≡ empty_content country → BeginAlike country H one other
empty_alike country H one other is also =
    (ap (λ (c : Content). c.country) is, ap (λ (c : Content). c.country) also, ap (account_in H) (is ∙ sym also))
