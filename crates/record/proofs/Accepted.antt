-- What an accepted record's reading went through. Rests on reading's definition.
use mathlib.Core.Path.{◌≡◌, ap, refl}
use mathlib.Core.List.{List}
use Prim.Native.Nat.{ℕ}
use native.Mathlib.Omega.{arith}
use Rattle.fixed.specs.Fixed.{fixed}
use Rattle.facts.specs.declared.Facts.{Facts}
use Rattle.fixed.specs.declared.Site.{Site}
use Rattle.fixed.proofs.Fits.{Fits, fixed_fits}
use Rattle.genotypes.specs.declared.Gt.{Gt}
use Rattle.std.specs.Prelude.{Ok, Err}
use Rattle.values.specs.Answers.{Answer}
use Rattle.values.proofs.Held.{held}
use Rattle.record.specs.declared.Reading.{Reading}
use Rattle.record.specs.Reading.{reading, after_fixed, after_site, after_genotypes, site_of, genotypes_of, accepted_as}

-- a record that is accepted in two ways is accepted in one
pub same_reading : {t u : Site} {g h : Gt} → accepted_as t g ≡ accepted_as u h → (t ≡ u) × (g ≡ h)
same_reading e = let k = held e in (ap (λ (a : Reading). a.site) k, ap (λ (a : Reading). a.gt) k)

-- the front, the site block and the genotype block
pub record Read (f : Facts) (t : Site) (g : Gt) (s : List ℕ) : Type 0 where
  pub end : ℕ
  pub front : fixed f s ≡ Ok t
  pub block : site_of f t s ≡ Ok end
  pub genotypes : genotypes_of f t s ≡ Ok g

pub accepted : (f : Facts) (s : List ℕ) (t : Site) (g : Gt) → reading f s ≡ accepted_as t g → Read f t g s
unfolding reading
accepted f s t g h = by_front (fixed f s) refl h
  where
    by-genotypes : (t' : Site) (x : Answer Gt) → after_genotypes t' x ≡ accepted_as t g → (t' ≡ t) × (x ≡ Ok g)
    by-genotypes t' (Err r) e = let z : ◌≡◌ {A = ℕ} 0 1 = cc in absurd (omega arith)
    by-genotypes t' (Ok g') e = let k = same_reading e in (k.0, rw k.1)

    by-site : (t' : Site) (p : Answer ℕ) → fixed f s ≡ Ok t' → site_of f t' s ≡ p → after_site f t' s p ≡ accepted_as t g → Read f t g s
    by-site t' (Err r) x b e = let z : ◌≡◌ {A = ℕ} 0 1 = cc in absurd (omega arith)
    by-site t' (Ok q) x b e =
        let k = by-genotypes t' (genotypes_of f t' s) e in
        record { end = q; front = rw k.0 at x; block = rw k.0 at b; genotypes = rw k.0 at k.1 }

    by_front : (x : Answer Site) → fixed f s ≡ x → after_fixed f s x ≡ accepted_as t g → Read f t g s
    by_front (Err r) k e = let z : ◌≡◌ {A = ℕ} 0 1 = cc in absurd (omega arith)
    by_front (Ok t') k e = by-site t' (site_of f t' s) k refl e

-- so its front fits its site
pub accepted_fits : (f : Facts) (s : List ℕ) (t : Site) (g : Gt) → reading f s ≡ accepted_as t g → Fits f s t
accepted_fits f s t g h = fixed_fits f s t (accepted f s t g h).front
