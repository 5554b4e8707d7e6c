-- Data stored from one signature to the next: the top key, and the parts that all counters of one lower key share.
use Rattle.std.specs.Prelude.{◌≡◌, ◌+◌, Option, IfSome}
use Rattle.st_lms.specs.Tree.{SecretKey}
use Rattle.st_vault.specs.Image.{child_of}
use Rattle.st_hss.specs.Uses.{head_of}
use Rattle.st_hss.specs.declared.trees.Lower.{Lower}
use Rattle.st_hss.specs.declared.trees.Trees.{Trees}

-- the lower key of a leaf of the top key, and the prefix of its signatures
pub record IsLowerOf (secret : SecretKey) (lower : Lower) : Type 0 where
  pub head : lower.head ≡ head_of secret lower.leaf
  pub signer : lower.signer ≡ child_of secret (1 + lower.leaf)

-- the top key of this secret, and one of its lower keys
pub record IsTreesOf (secret : SecretKey) (trees : Trees) : Type 0 where
  pub top : trees.top ≡ child_of secret 0
  pub lower : IsLowerOf secret trees.lower

-- the stored trees, if any, are these
abbrev pub IfKept : SecretKey → Option Trees → Type 0
IfKept secret kept = IfSome kept (IsTreesOf secret)
