mod AuthzCosts
mod ServerRows
