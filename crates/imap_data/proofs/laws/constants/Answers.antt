use Rattle.std.proofs.Common.{refl}
use Rattle.imap_shared.specs.Statuses.{status}
use Rattle.imap_shared.specs.Capabilities.{capability}
use Rattle.imap_extensions.specs.Quotas.{quota_resource_name}
use Rattle.imap_data.specs.Constants.{status_texts, capability_texts, code_texts, name_attribute_texts, resource_texts}
use Rattle.imap_data.specs.Codes.{response_code, charsets}
use Rattle.imap_data.specs.Names.{name_attribute}
use Rattle.imap_data.proofs.AnyCase.{all_read}
use Rattle.imap_data.proofs.Rules.{code_rules}
use Rattle.imap_data.proofs.laws.constants.Goals as goal

pub returns-clause-status : goal.returns-clause-status
unfolding status
returns-clause-status c = all_read status status_texts ((refl, λ x. refl), ((refl, λ x. refl), ((refl, λ x. refl), ((refl, λ x. refl), ((refl, λ x. refl), tt)))))

pub returns-clause-capability : goal.returns-clause-capability
unfolding capability
returns-clause-capability c = all_read capability capability_texts ((refl, λ x. refl), tt)

pub returns-clause-response_code : goal.returns-clause-response_code
unfolding response_code charsets code_rules
returns-clause-response_code c = all_read response_code code_texts ((refl, λ x. refl), ((refl, λ x. refl), ((refl, λ x. refl), ((refl, λ x. refl), ((refl, λ x. refl), ((refl, λ x. refl), ((refl, λ x. refl), ((refl, λ x. refl), ((refl, λ x. refl), tt)))))))))

pub returns-clause-name_attribute : goal.returns-clause-name_attribute
unfolding name_attribute
returns-clause-name_attribute c = all_read name_attribute name_attribute_texts ((refl, λ x. refl), ((refl, λ x. refl), ((refl, λ x. refl), ((refl, λ x. refl), ((refl, λ x. refl), ((refl, λ x. refl), ((refl, λ x. refl), ((refl, λ x. refl), ((refl, λ x. refl), ((refl, λ x. refl), ((refl, λ x. refl), tt)))))))))))

pub returns-clause-quota_resource_name : goal.returns-clause-quota_resource_name
unfolding quota_resource_name
returns-clause-quota_resource_name c = all_read quota_resource_name resource_texts ((refl, λ x. refl), ((refl, λ x. refl), tt))
