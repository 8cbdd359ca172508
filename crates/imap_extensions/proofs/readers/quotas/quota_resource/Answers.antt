use Rattle.std.proofs.Common.{refl}
use Rattle.imap_extensions.specs.Quotas.{quota_resource}
use Rattle.imap_extensions.proofs.readers.quotas.quota_resource.Goals as goal

pub returns : goal.returns
unfolding quota_resource
returns c =
    rw (c.in_ok-rest.ensures, c.in_ok-rest-2.ensures.steps, c.in_ok-rest-3.ensures.steps, c.in_ok-rest-4.ensures.steps, c.in_ok-rest-5.ensures.steps) refl
