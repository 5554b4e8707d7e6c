use Rattle.st_hss.proofs.LawLemmas.{one_message_a_leaf, signs_for_public}
use Rattle.st_hss.proofs.vault.hss_laws.Goals as goal

pub returns-clause-one_message_a_leaf : goal.returns-clause-one_message_a_leaf
returns-clause-one_message_a_leaf c = one_message_a_leaf

pub returns-clause-signs_for_public : goal.returns-clause-signs_for_public
returns-clause-signs_for_public c = signs_for_public
