-- One account of what a record holds, proved: each law cites the crate that has its proof. Rests on specs/Account.
use mathlib.Core.Path.{◌≡◌, refl, sym}
use mathlib.Core.List.{List, [], ◌∷◌}
use Prim.Native.Nat.{ℕ, suc, ◌^◌, ◌<◌}
use native.Mathlib.Omega.{arith}
use Rattle.facts.specs.declared.Facts.{Facts}
use Rattle.fixed.specs.declared.Site.{Site}
use Rattle.genotypes.specs.declared.Gt.{Gt}
use Rattle.record.specs.Reading.{reading, accepted_as}
use Rattle.fetch.specs.Account.{account, of_kind, numbered}
use Rattle.fetch.specs.Fetch.{field_of, found}
use Rattle.fetch.specs.declared.Kind.{Kind}
use Rattle.fetch_laws.proofs.InTurn.{kinds_there, accepted_in_turn, in_turn_accepted, accepted_gt, gt_fetched, gt_none}
use Rattle.fetch_laws.proofs.FormatsInTurn.{format_in_turn}
use Rattle.fetch_laws.proofs.Turns.{site_in_turn}
use Rattle.walker.proofs.Walks.{walk_account}
use Rattle.elements.specs.Elements.{shown_by}
use Rattle.elements.proofs.Elements.{shown_by_there, shown_by_same}
use Rattle.shown.specs.Shown.{Kind as Sort, integers, floats, text, kind_of}
use Rattle.contents.specs.Fetched.{shown_at}
use Rattle.contents.proofs.Fetched.{shown_fetched}
use Rattle.build_laws.specs.Records.{Fit, most_element}
use Rattle.laws.specs.Account.{Accounts}

found_numbered : (f : Facts) (s : List ℕ) (t : Site) (g : Gt) (kind : Kind) (n : ℕ) → reading f s ≡ accepted_as t g
    → found f kind n s ≡ numbered n (of_kind kind (account t s))
unfolding found field_of
found_numbered f s t g kind n h = rw h

field_of_found : (f : Facts) (s : List ℕ) (t : Site) (g : Gt) (kind : Kind) (n : ℕ) → reading f s ≡ accepted_as t g → field_of kind n t s ≡ found f kind n s
unfolding found
field_of_found f s t g kind n h = rw h

-- an element of any kind has 32 bits
most_bits : (k : Sort) (x : ℕ) → x < most_element k → x < 2 ^ 32
most_bits integers x h = omega arith
most_bits floats x h = omega arith
most_bits text x h = omega arith

-- what is answered at every index says which elements they are
shown_at_same : (t : ℕ) (xs ys : List ℕ) → Fit (kind_of t) xs → Fit (kind_of t) ys → ((i : ℕ) → shown_at t xs i ≡ shown_at t ys i) → xs ≡ ys
shown_at_same t [] [] p q h = refl
shown_at_same t [] (y ∷ ys) p q h = absurd (shown_by_there t y (h 0))
shown_at_same t (x ∷ xs) [] p q h = absurd (shown_by_there t x (sym (h 0)))
shown_at_same t (x ∷ xs) (y ∷ ys) p q h =
    let same : shown_by t x ≡ shown_by t y = cc (h 0) in
    let e : x ≡ y = shown_by_same t x y (most_bits (kind_of t) x p.0) (most_bits (kind_of t) y q.0) same in
    rw (e, shown_at_same t xs ys p.1 q.1 (λ i. h (suc i)))

pub accounts : Accounts
accounts =
    record {
      there = kinds_there;
      judged = accepted_in_turn;
      accepted = in_turn_accepted;
      site_block = site_in_turn;
      genotype_block = format_in_turn;
      fetched = found_numbered;
      again = field_of_found;
      walked = walk_account;
      gt = accepted_gt;
      gt_fetched = gt_fetched;
      gt_none = gt_none;
      shown = shown_fetched;
      elements = shown_at_same;
    }
